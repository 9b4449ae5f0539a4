-- The two laws of each section's part.
use Rattle.std.proofs.Common.{ℕ, List}
use Rattle.pj_fields.specs.Fields.{list, list_at}
use Rattle.pj_fields.proofs.Laws.{Laws, list_laws}
use Rattle.pj_tree.specs.Bytes.{tree}
use Rattle.pj_tree.specs.Fits.{TreeFits}
use Rattle.pj_tree.specs.Reading.{tree_at}
use Rattle.pj_tree.proofs.TreeLaws.{tree_laws}
use Rattle.pj_parts.specs.Spelling.{text, fun_def, binding, method, entry}
use Rattle.pj_parts.specs.Fits.{ListFits, NoneYet, TextFits, FunDefFits, BindingFits, MethodFits, EntryFits}
use Rattle.pj_parts.specs.Reading.{nothing_at, text_at, fun_def_at, binding_at, method_at, entry_at}
use Rattle.pj_parts.proofs.PartLaws.{nothing_laws, text_laws, fun_def_laws, binding_laws, method_laws, entry_laws}

pub strings_laws : Laws (list text) (list_at text_at) (ListFits TextFits)
strings_laws = list_laws text text_at TextFits text_laws

pub functions_laws : Laws (list fun_def) (list_at fun_def_at) (ListFits FunDefFits)
functions_laws = list_laws fun_def fun_def_at FunDefFits fun_def_laws

pub bindings_laws : Laws (list binding) (list_at binding_at) (ListFits BindingFits)
bindings_laws = list_laws binding binding_at BindingFits binding_laws

pub trees_laws : Laws (list tree) (list_at tree_at) (ListFits TreeFits)
trees_laws = list_laws tree tree_at TreeFits tree_laws

pub methods_laws : Laws (list method) (list_at method_at) (ListFits MethodFits)
methods_laws = list_laws method method_at MethodFits method_laws

pub entries_laws : Laws (list entry) (list_at entry_at) (ListFits EntryFits)
entries_laws = list_laws entry entry_at EntryFits entry_laws

pub nothings_laws : {A : Type 0} (put : A → List ℕ) → Laws (list put) (list_at (nothing_at {A = A})) (ListFits (NoneYet {A = A}))
nothings_laws {A = A} put = list_laws put (nothing_at {A = A}) (NoneYet {A = A}) (nothing_laws put)
