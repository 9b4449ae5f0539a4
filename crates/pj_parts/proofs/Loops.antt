-- A member that isn't read ends the loop as reading ends.
use Rattle.std.proofs.Common.{◌≡◌, ℕ, ◌-◌, ◌<◌, List, Option}
use Rattle.pj_fields.specs.Fields.{Reader, many}
use Rattle.pj_fields.proofs.Loop.{with_front, ends}
use Rattle.pj_parts.specs.declared.fault.PartFault.{PartFault}
use Rattle.pj_parts.specs.declared.fault.PartFault.TheVariants as faults
use Rattle.pj_parts.specs.Given.{Fails}

pub fails : {A : Type 0} (get : Reader A) (fault : PartFault) (front : List A) (count i : ℕ) (bytes : List ℕ) (total : Option (List A × List ℕ)) → i < count → Fails fault (get bytes)
    → with_front front (many get (count - i) bytes) ≡ total → Fails fault total
fails get faults.NoMemory front count i bytes total lt h so_far = tt
fails get faults.Bad front count i bytes total lt h so_far = ends get front count i bytes total lt h so_far
