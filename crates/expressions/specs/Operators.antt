-- Operators by their codes, and a variable's value (01, "The image", "Values"). Assumes nothing.
use mathlib.Core.{Bool.true, Bool.false, Bool.not, Bool.cond}
use Rattle.std.specs.Prelude.{ℕ, Option, Some, None}
use lib.{Dec.eqb, IntN.ℤ, IntN.pos}
use Rattle.model.specs.Bytes.{signed}
use Rattle.model.specs.Values.{mark, half16, same}
use Rattle.model.specs.Image.{int}
use Rattle.model.specs.Rows.{Unary, Not, Negate, And, Or, Plus, Minus, Times, Quotient, Remainder, Equal, Less, AtMost, Binary, logic, arithmetic, comparison}

-- 16; 19
unfoldable pub unary_of : ℕ → Unary
unary_of c = elim (eqb c 16) [ true ↦ Not | false ↦ Negate ]

-- 17, 18; 20 to 24; 25 to 27
unfoldable pub binary_of : ℕ → Binary
binary_of c =
    elim (eqb c 17) [
      | true ↦ logic And
      | false ↦
          elim (eqb c 18) [
            | true ↦ logic Or
            | false ↦
                elim (eqb c 20) [
                  | true ↦ arithmetic Plus
                  | false ↦
                      elim (eqb c 21) [
                        | true ↦ arithmetic Minus
                        | false ↦
                            elim (eqb c 22) [
                              | true ↦ arithmetic Times
                              | false ↦
                                  elim (eqb c 23) [
                                    | true ↦ arithmetic Quotient
                                    | false ↦
                                        elim (eqb c 24) [
                                          | true ↦ arithmetic Remainder
                                          | false ↦
                                              elim (eqb c 25) [
                                                | true ↦ comparison Equal
                                                | false ↦
                                                    elim (eqb c 26) [ true ↦ comparison Less | false ↦ comparison AtMost ]
                                              ]
                                        ]
                                  ]
                            ]
                      ]
                ]
          ]
    ]

-- "a slot holding 65,536 is undefined"
unfoldable pub value_of : ℤ → Option ℤ
value_of z = elim (not (same z (mark half16))) [ true ↦ Some z | false ↦ None ]

-- "constant of type a, value b (int: two's complement)"
unfoldable pub constant_by : ℕ → ℕ → ℤ
constant_by a b = cond (eqb a int) (signed half16 b) (pos b)
