use borrow.Author.Rules.{rules}
use mathlib.Core.Path.{◌≡◌}
use Prim.Native.Nat.{ℕ}
use native.Mathlib.Omega.{arith}
use Rattle.actions.proofs.Drawing.{word-inside}
use Rattle.offers.proofs.Accepted.{pattern-asks, type-inside, receives-ended, receives-out, tries, receives-matched, receives-failed, receives-unsure}
use Rattle.offers.proofs.receive.Goals as goal

pub type_of_pattern-requires : goal.type_of_pattern-requires
type_of_pattern-requires c = pattern-asks c.requires

pub size-n-requires : goal.size-n-requires
size-n-requires c = type-inside c.requires c.type_of_pattern.ensures

pub overflow_add-words : goal.overflow_add-words
overflow_add-words c = let i = word-inside _ _ _ c.read_word.ensures (λ e. let k : ◌≡◌ {A = ℕ} 0 1 = cc in absurd (omega arith)) in search rules

pub matches-requires : goal.matches-requires
matches-requires c = tries c.requires _ c.args.place _ c.type_of_pattern.ensures c.size-n.ensures c.read_word.ensures c.in-Read.is

pub overflow_add-words-in-Holds : goal.overflow_add-words-in-Holds
overflow_add-words-in-Holds c = let i = word-inside _ _ _ c.read_word.ensures (λ e. let k : ◌≡◌ {A = ℕ} 0 1 = cc in absurd (omega arith)) in search rules

pub overflow_add-words-in-Fails : goal.overflow_add-words-in-Fails
overflow_add-words-in-Fails c = let i = word-inside _ _ _ c.read_word.ensures (λ e. let k : ◌≡◌ {A = ℕ} 0 1 = cc in absurd (omega arith)) in search rules

pub overflow_add-words-in-Unsure : goal.overflow_add-words-in-Unsure
overflow_add-words-in-Unsure c = let i = word-inside _ _ _ c.read_word.ensures (λ e. let k : ◌≡◌ {A = ℕ} 0 1 = cc in absurd (omega arith)) in search rules

pub returns-in-Ended : goal.returns-in-Ended
returns-in-Ended c = rw c.refused.ensures (receives-ended c.requires _ _ _ c.type_of_pattern.ensures c.size-n.ensures c.read_word.ensures c.in-Ended.is)

pub returns-in-OutOfRange : goal.returns-in-OutOfRange
returns-in-OutOfRange c = rw c.refused-in-OutOfRange.ensures (receives-out c.requires _ _ _ c.type_of_pattern.ensures c.size-n.ensures c.read_word.ensures c.in-OutOfRange.is)

pub returns-in-Holds : goal.returns-in-Holds
returns-in-Holds c = rw c.gave.ensures (receives-matched c.requires _ _ _ c.type_of_pattern.ensures c.size-n.ensures c.read_word.ensures c.in-Read.is c.matches.ensures c.in-Holds.is)

pub returns-in-Fails : goal.returns-in-Fails
returns-in-Fails c = rw c.refused-in-Fails.ensures (receives-failed c.requires _ _ _ c.type_of_pattern.ensures c.size-n.ensures c.read_word.ensures c.in-Read.is c.matches.ensures c.in-Fails.is)

pub returns-in-Unsure : goal.returns-in-Unsure
returns-in-Unsure c = rw c.refused-in-Unsure.ensures (receives-unsure c.requires _ _ _ c.type_of_pattern.ensures c.size-n.ensures c.read_word.ensures c.in-Read.is c.matches.ensures c.in-Unsure.is)
