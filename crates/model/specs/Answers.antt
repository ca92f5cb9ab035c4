-- The numbers given instead (01, "Numbers given instead") and the order in which they are given. Assumes nothing.
use Rattle.std.specs.Prelude.{Bool, true, false, cond, ℕ, zero, suc, leb, ltb, Option, Some, None, Result, Ok, Err}
use Rattle.model.specs.declared.{State.State, Variable.Variable, Gate.Gate, Row.Row, Move.Move, Refusal.Refusal, Refusal.TheVariants.ImageLength, Refusal.TheVariants.MarkOrLength, Refusal.TheVariants.Starts, Refusal.TheVariants.Entries, Refusal.TheVariants.Malformed, Refusal.TheVariants.NoAction, Refusal.TheVariants.NoCondition, Refusal.TheVariants.NotNamedOnce, Refusal.TheVariants.Typing, Refusal.TheVariants.Binding, Refusal.TheVariants.SetsShort, Refusal.TheVariants.Initialisation, Refusal.TheVariants.Speech, Refusal.TheVariants.StoreLength, Refusal.TheVariants.ParameterCount, Refusal.TheVariants.ParameterValue, Refusal.TheVariants.ConditionFalse, Refusal.TheVariants.NoState, Refusal.TheVariants.SlotValue, Refusal.TheVariants.LabelShort, Refusal.TheVariants.BudgetOver, Refusal.TheVariants.Blocked, Refusal.TheVariants.Undefined, Refusal.TheVariants.ScriptEnded, Refusal.TheVariants.WordOutOfRange, Refusal.TheVariants.BudgetSpent, Refusal.TheVariants.BlockedSpoken, Refusal.TheVariants.SecondCommunication}

-- members of the report's sets, and rows, by their numbers
abbrev pub state : ℕ → State
state n = record { 0 = n }

abbrev pub variable : ℕ → Variable
variable n = record { 0 = n }

abbrev pub gate : ℕ → Gate
gate n = record { 0 = n }

abbrev pub row : ℕ → Row
row n = record { 0 = n }

-- the table: of each refusal its number and its place
pub record Given : Type 0 where
  pub number : ℕ
  pub place : ℕ

abbrev pub numbered : ℕ → ℕ → Given
numbered n p = record { number = n; place = p }

abbrev pub given : Refusal → Given
given ImageLength = numbered 1 0
given MarkOrLength = numbered 2 0
given Starts = numbered 3 0
given Entries = numbered 4 0
given (Malformed r) = numbered 5 r.0
given (NoAction s) = numbered 6 s.0
given (NoCondition n) = numbered 6 n
given (NotNamedOnce r) = numbered 7 r.0
given (Typing r) = numbered 8 r.0
given (Binding r) = numbered 9 r.0
given SetsShort = numbered 10 0
given (Initialisation s) = numbered 11 s.0
given (Speech s) = numbered 12 s.0
given StoreLength = numbered 13 0
given ParameterCount = numbered 14 0
given (ParameterValue v) = numbered 15 v.0
given ConditionFalse = numbered 16 0
given NoState = numbered 17 0
given (SlotValue v) = numbered 18 v.0
given LabelShort = numbered 19 0
given BudgetOver = numbered 20 0
given (Blocked r) = numbered 21 r.0
given (Undefined r) = numbered 22 r.0
given (ScriptEnded r) = numbered 23 r.0
given (WordOutOfRange r) = numbered 24 r.0
given (BudgetSpent r) = numbered 25 r.0
given (BlockedSpoken r) = numbered 26 r.0
given (SecondCommunication r) = numbered 27 r.0

abbrev pub number : Refusal → ℕ
number y = (given y).number

abbrev pub place : Refusal → ℕ
place y = (given y).place

-- what check and start give, and each stage of the calls: nothing wrong, or a refusal
abbrev pub Verdict : Type 0
Verdict = Result (Unit {0}) Refusal

-- what a step gives: its move, or why there is none
abbrev pub Stepped : Type 0
Stepped = Result Move Refusal

-- the second stage's verdict, where the first refuses nothing
unfoldable pub after : Verdict → Verdict → Verdict
after (Ok _) next = next
after (Err x) next = Err x

-- refused with x unless the test passes
abbrev pub unless : Bool → Refusal → Verdict
unless true x = Ok tt
unless false x = Err x

-- "Lowest place first": the lowest k below n at which the test fails, or n
unfoldable pub lowest : (ℕ → Bool) → ℕ → ℕ
lowest p zero = zero
lowest p (suc n) = let k = lowest p n in cond (ltb k n) k (cond (p n) (suc n) n)

-- refused at the lowest place below n at which the test fails
unfoldable pub each : (ℕ → Bool) → ℕ → (ℕ → Refusal) → Verdict
each p n x = let k = lowest p n in unless (leb n k) (x k)

-- the same place, where there is one
unfoldable pub lowest_failing : (ℕ → Bool) → ℕ → Option ℕ
lowest_failing p n = let k = lowest p n in cond (ltb k n) (Some k) None
