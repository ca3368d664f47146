-- `tables::mark::standing` meets its contract. The loop's invariant: the word so far is the number of the places passed. Assumes nothing.
use Prim.Native.Nat.{ℕ, ◌+◌, ◌-◌, ◌*◌, ◌%◌, ◌^◌, ◌<◌}
use mathlib.Core.Path.{◌≡◌, refl, sym, ap, ◌∙◌}
use mathlib.Core.Bool.{false}
use native.Mathlib.Omega.{arith}
use borrow.Author.Rules.{rules}
use lib.Dec.{eqb}
use lib.Bits.{bit_or}
use lib.ListN.{get_or, length-map}
use Rattle.laws.proofs.Lists.{map_at}
use Rattle.tables.specs.Bits.{digits, number, stands}
use Rattle.tables.proofs.Standing.{number_short, byte_joined, word_is}
use Rattle.tables.proofs.mark.standing.Goals as goal

pub returns-then-numbers-ge64 : goal.returns-then-numbers-ge64
returns-then-numbers-ge64 c =
    let numbers = c.args.numbers.now in
    let x = c.args.x in
    let told : (i : ℕ) → i < 64 → get_or (digits 64 c.word_of.result) i false ≡ eqb (get_or numbers i 0) x = λ i h. let k = c.word_of.ensures i h in search rules in
    word_is c.word_of.result (stands x numbers) c.word_of.type_inv (λ i h. told i h ∙ sym (map_at (λ m. eqb m x) numbers i 0 false (omega arith)))

pub loop-i-init : goal.loop-i-init
unfolding number
loop-i-init c = refl

pub loop-i-preserved : goal.loop-i-preserved
loop-i-preserved c =
    let at = c.loop-i in
    let numbers = c.args.numbers.now in
    let x = c.args.x in
    (λ j. bit_or (at.invariant j) (c.from.ensures j * 2 ^ at.i % 2 ^ 64))
    ∙ byte_joined 64 at.i (stands x numbers) _ (omega arith) (map_at (λ m. eqb m x) numbers at.i 0 false (omega arith))

pub returns : goal.returns
returns c =
    let at = c.loop-i in
    let bits = stands c.args.x c.args.numbers.now in
    at.invariant
    ∙ sym (number_short at.i (64 - at.i) bits (omega (arith, length-map c.args.numbers.now (λ m. eqb m c.args.x))))
    ∙ ap (λ (n : ℕ). number n bits) (let whole : at.i + (64 - at.i) ≡ 64 = omega arith in whole)
