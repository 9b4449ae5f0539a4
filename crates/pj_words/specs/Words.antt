-- Which texts are words of the language. A text is its bytes.
use Rattle.std.specs.Prelude.{ℕ, Bool, false, not, List, [], ◌∷◌, ◌&&◌, ◌||◌, ◌==◌, length, nat_le, nat_lt, codes}
use Rattle.std.specs.List.{list_all, list_any}
use Rattle.std.specs.Str.{bytes_eq, chars}
use Rattle.std.specs.Char.{is_ascii_alphanumeric, is_ascii_uppercase}
use Rattle.unicode_ident.specs.Ident.{is_xid_continue, is_xid_start}
use Rattle.pj_words.specs.Reserved.{is_reserved}

-- the first of these passes the test
abbrev pub first_is : (ℕ → Bool) → List ℕ → Bool
first_is test [] = false
first_is test (x ∷ xs) = test x

-- an identifier begins with this character: `_`, or one of Unicode's XID_Start
unfoldable pub starts_name : ℕ → Bool
starts_name c = is_xid_start c || (c == 95)

-- each character of an identifier is one of these: `!`, or one of Unicode's XID_Continue, to which those that begin one belong
unfoldable pub continues_name : ℕ → Bool
continues_name c = is_xid_continue c || (c == 33)

-- of ASCII, these are letters, digits, `_` and `!`
abbrev pub is_plain : ℕ → Bool
is_plain c = nat_lt c 128 && ((is_ascii_alphanumeric c || (c == 95)) || (c == 33))

-- the greatest length of an identifier, in bytes
abbrev pub longest_name : ℕ
longest_name = 255

unfoldable pub is_identifier : List ℕ → Bool
is_identifier text =
    first_is starts_name (chars text) && list_all continues_name (chars text) && nat_le (length text) longest_name && not (is_reserved text)

-- the text is one of these
unfoldable pub is_among : List ℕ → List (List ℕ) → Bool
is_among text texts = list_any (bytes_eq text) texts

-- a package's name: an ASCII capital, then ASCII letters, digits and `_`; 64 bytes at most; and neither Base nor Main
unfoldable pub is_package_name : List ℕ → Bool
is_package_name text =
    first_is is_ascii_uppercase text && list_all (λ c. is_ascii_alphanumeric c || (c == 95)) text && nat_le (length text) 64
    && not (is_among text (codes "Base" ∷ codes "Main" ∷ []))

-- what Base binds: its types, with another spelling of Int64, and its functions
unfoldable pub base_names : List (List ℕ)
base_names =
    codes "Any" ∷ codes "Number" ∷ codes "Real" ∷ codes "Integer" ∷ codes "Signed" ∷ codes "Int64" ∷ codes "Int" ∷ codes "Bool" ∷
    codes "AbstractString" ∷ codes "String" ∷ codes "Nothing" ∷ codes "Function" ∷
    codes "+" ∷ codes "-" ∷ codes "*" ∷ codes "div" ∷ codes "rem" ∷ codes "==" ∷ codes "!=" ∷ codes "<" ∷ codes "<=" ∷ codes ">" ∷
    codes ">=" ∷ codes "!" ∷ codes "abs" ∷ codes "min" ∷ codes "max" ∷ codes "print" ∷ codes "println" ∷ codes "error" ∷ []

abbrev pub is_base_name : List ℕ → Bool
is_base_name text = is_among text base_names

-- the names with a form of their own, which no text binds
unfoldable pub special_names : List (List ℕ)
special_names = codes "eval" ∷ codes "precompile" ∷ codes "invokelatest" ∷ codes "delete_method" ∷ []

abbrev pub is_special : List ℕ → Bool
is_special text = is_among text special_names
