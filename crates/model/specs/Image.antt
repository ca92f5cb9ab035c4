-- The image: its trailer and its tables (01, "The image"; refusals 1 to 4). Assumes nothing.
use mathlib.Core.{Bool.Bool, Bool.true, Bool.false, Bool.◌&&◌, List.List, List.[], List.◌∷◌}
use Rattle.std.specs.Prelude.{ℕ, ◌+◌, ◌-◌, ◌*◌, ◌/◌, ◌%◌}
use lib.{Dec.eqb, Dec.leb, Dec.ltb, ListN.length, ListN.get_or}
use Rattle.model.specs.declared.{Image.Image, Fields.Fields, Variable.Variable}
use Rattle.model.specs.Limits.{limits}
use Rattle.model.specs.Lists.{table}
use Rattle.model.specs.Bytes.{half_at}
use Rattle.model.specs.Values.{half16}

-- no row
abbrev pub none : ℕ
none = 0xFFFF

-- type 0 is bool, type 1 is int
abbrev pub bool : ℕ
bool = 0

abbrev pub int : ℕ
int = 1

abbrev pub between : ℕ → ℕ → ℕ → Bool
between least n most = leb least n && leb n most

-- the trailer: seven numbers in the last 16 bytes
unfoldable pub trailer_of : List ℕ → Image
trailer_of s =
    let at = length s - 16 in
    record {
      types = half_at s at;
      variables = half_at s (at + 2);
      states = half_at s (at + 4);
      rows = half_at s (at + 6);
      gates = half_at s (at + 8);
      condition = half_at s (at + 10);
      length = half_at s (at + 12);
    }

-- where the rows end and the trailer starts
abbrev pub rows_end : Image → ℕ
rows_end i = i.length - 16

abbrev pub type_count : Image → ℕ
type_count i = (i.variables - i.types) / 2

abbrev pub variable_count : Image → ℕ
variable_count i = (i.states - i.variables) / 4

abbrev pub state_count : Image → ℕ
state_count i = (i.rows - i.states) / 2

abbrev pub row_count : Image → ℕ
row_count i = (rows_end i - i.rows) / 8

-- 1: the image's length is inside its limits
unfoldable pub length_fits : List ℕ → Bool
length_fits s = between limits.length_least (length s) limits.length

-- 2: the mark 4E 54 and the length field
unfoldable pub marked : List ℕ → Bool
marked s =
    eqb (get_or s (length s - 2) 0) 0x4E && (eqb (get_or s (length s - 1) 0) 0x54 && eqb (trailer_of s).length (length s))

-- a table of entries of a size: it doesn't end before it starts, holds whole entries, and their number is inside its limits
unfoldable pub table_fits : ℕ → ℕ → ℕ → ℕ → ℕ → Bool
table_fits start «end» size least most =
    leb start «end» && (eqb ((«end» - start) % size) 0 && between least ((«end» - start) / size) most)

-- 3: the tables follow one another from byte 0, and the counts are inside their limits
unfoldable pub starts_fit : Image → Bool
starts_fit i =
    eqb i.types 0
    && (table_fits i.types i.variables 2 limits.types_least limits.types
    && (table_fits i.variables i.states 4 limits.variables_least limits.variables
    && (table_fits i.states i.rows 2 limits.states_least limits.states
    && (table_fits i.rows (rows_end i) 8 limits.rows_least limits.rows
    && between limits.gates_least i.gates limits.gates))))

-- a variable's entry: its type, and 1 for a parameter
pub record Entry : Type 0 where
  pub type : ℕ
  pub parameter : ℕ

-- an image, its bytes read: half the number of int's values, each type's number of values, the variables' entries, the
-- number of gates, the states' rows, the rows, the row of the initial condition
pub record Tables : Type 0 where
  pub half : ℕ
  pub sizes : List ℕ
  pub variables : List Entry
  pub gates : ℕ
  pub states : List ℕ
  pub rows : List Fields
  pub condition : ℕ

abbrev pub entry_at : List ℕ → ℕ → Entry
entry_at s i = record { type = half_at s i; parameter = half_at s (i + 2) }

abbrev pub fields_at : List ℕ → ℕ → Fields
fields_at s i = record { code = half_at s i; a = half_at s (i + 2); b = half_at s (i + 4); c = half_at s (i + 6) }

unfoldable pub tables_of : List ℕ → Tables
tables_of s =
    let i = trailer_of s in
    record {
      half = half16;
      sizes = table (λ t. half_at s (i.types + 2 * t)) 0 (type_count i);
      variables = table (λ v. entry_at s (i.variables + 4 * v)) 0 (variable_count i);
      gates = i.gates;
      states = table (λ q. half_at s (i.states + 2 * q)) 0 (state_count i);
      rows = table (λ r. fields_at s (i.rows + 8 * r)) 0 (row_count i);
      condition = i.condition;
    }

-- a type's number of values
abbrev pub size_of : Tables → ℕ → ℕ
size_of x t = get_or x.sizes t 0

-- a variable's entry and its type
abbrev pub entry_of : Tables → Variable → Entry
entry_of x v = get_or x.variables v.0 (record { type = 0; parameter = 0 })

abbrev pub type_of : Tables → Variable → ℕ
type_of x v = (entry_of x v).type

-- the fields of row r; past the table they are 0, which is no code
abbrev pub fields_of : Tables → ℕ → Fields
fields_of x r = get_or x.rows r (record { code = 0; a = 0; b = 0; c = 0 })

-- other types have 1 to 4,096 values
unfoldable pub others_fit : List ℕ → Bool
others_fit [] = true
others_fit (k ∷ ks) = between limits.values_least k limits.values && others_fit ks

-- type 0 has 2 values, type 1 has 0
unfoldable pub sizes_fit : List ℕ → Bool
sizes_fit [] = false
sizes_fit (m ∷ []) = false
sizes_fit (m ∷ n ∷ ns) = eqb m 2 && (eqb n 0 && others_fit ns)

-- a variable's type exists, and its second field is 0 or 1
unfoldable pub entries_fit : ℕ → List Entry → Bool
entries_fit types [] = true
entries_fit types (e ∷ es) = ltb e.type types && (leb e.parameter 1 && entries_fit types es)

-- 4: the entries of types and variables
unfoldable pub entries_right : Tables → Bool
entries_right x = sizes_fit x.sizes && entries_fit (length x.sizes) x.variables
