-- Each pair has its two digits.
use mathlib.Core.Bool.{true}
use mathlib.Core.List.{List}
use mathlib.Core.Path.{◌≡◌, refl}
use Prim.Native.Nat.{ℕ, ◌+◌, ◌<◌}
use native.Mathlib.Omega.{arith}
use Rattle.meaning.specs.Bytes.{is_digit, digit_at}
use Rattle.stamps.proofs.grammar.DateTimes.{pair-taken, pair_small}
use Rattle.stamps.specs.Shape.{takes, first_wrong}
use Rattle.stamps.proofs.grammar.parts_in.Goals as goal

two : (s : List ℕ) → first_wrong 19 0 0 s ≡ 19 → (j : ℕ) → j + 1 < 19 → ((b : ℕ) → takes (0 + j) b ≡ is_digit b) → ((b : ℕ) → takes (0 + (j + 1)) b ≡ is_digit b)
    → (digit_at j s ≡ true) × (digit_at (j + 1) s ≡ true)
two s all j h first second = pair-taken 19 0 0 s all j j (omega arith) h first second

pub overflow_mul-result : goal.overflow_mul-result
unfolding takes
overflow_mul-result c =
    let s = c.args.text.now in
    record { fits = omega (arith, c.pair_at.ensures, pair_small 0 s (two s c.requires 0 (omega arith) (λ b. refl) (λ b. refl))) }

pub overflow_add-result : goal.overflow_add-result
unfolding takes
overflow_add-result c =
    let s = c.args.text.now in
    let high = pair_small 0 s (two s c.requires 0 (omega arith) (λ b. refl) (λ b. refl)) in
    let low = pair_small 2 s (two s c.requires 2 (omega arith) (λ b. refl) (λ b. refl)) in
    record { fits = omega (arith, c.pair_at.ensures, c.pair_at-2.ensures, high, low) }

pub pair_at-requires : goal.pair_at-requires
unfolding takes
pair_at-requires c = two c.args.text.now c.requires 0 (omega arith) (λ b. refl) (λ b. refl)

pub pair_at-requires-2 : goal.pair_at-requires-2
unfolding takes
pair_at-requires-2 c = two c.args.text.now c.requires 2 (omega arith) (λ b. refl) (λ b. refl)

pub pair_at-requires-3 : goal.pair_at-requires-3
unfolding takes
pair_at-requires-3 c = two c.args.text.now c.requires 5 (omega arith) (λ b. refl) (λ b. refl)

pub pair_at-requires-4 : goal.pair_at-requires-4
unfolding takes
pair_at-requires-4 c = two c.args.text.now c.requires 8 (omega arith) (λ b. refl) (λ b. refl)

pub pair_at-requires-5 : goal.pair_at-requires-5
unfolding takes
pair_at-requires-5 c = two c.args.text.now c.requires 11 (omega arith) (λ b. refl) (λ b. refl)

pub pair_at-requires-6 : goal.pair_at-requires-6
unfolding takes
pair_at-requires-6 c = two c.args.text.now c.requires 14 (omega arith) (λ b. refl) (λ b. refl)

pub pair_at-requires-7 : goal.pair_at-requires-7
unfolding takes
pair_at-requires-7 c = two c.args.text.now c.requires 17 (omega arith) (λ b. refl) (λ b. refl)

pub returns : goal.returns
returns c =
    rw (c.pair_at.ensures, c.pair_at-2.ensures, c.pair_at-3.ensures, c.pair_at-4.ensures, c.pair_at-5.ensures, c.pair_at-6.ensures, c.pair_at-7.ensures)
