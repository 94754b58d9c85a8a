-- The numbers of the tables, gone through one after the other.
use mathlib.Core.Path.{◌≡◌, refl}
use Prim.Native.Nat.{ℕ, ◌≤◌, ◌<◌}
use native.Mathlib.Omega.{arith}
use borrow.Author.Tests.{eqb-true, eqb-false}
use lib.Dec.{eqb}
use Rattle.laws.proofs.Tests.{by-test}
use Rattle.meaning.specs.Names.{Book, names, english}
use Rattle.names.specs.Lists.{list_at}

-- the first of those from k on, or a later one
pub first-or : (P : ℕ → Type 0) (k n : ℕ) → k ≤ n → P k → (k < n → P n) → P n
first-or P k n h here later = by-test (eqb n k) (λ e. rw (eqb-true n k e) here) (λ e. later (omega (arith, eqb-false n k e)))

-- the tables before the weekdays are the same in every book

abbrev Fixed : Book → ℕ → Type 0
Fixed book n = names book (list_at n) ≡ names english (list_at n)

pub fixed-names : (book : Book) (n : ℕ) → n < 10 → names book (list_at n) ≡ names english (list_at n)
unfolding names
fixed-names book n h =
    let next = first-or (Fixed book) in
    next 0 n (omega arith) refl (λ m. next 1 n m refl (λ m. next 2 n m refl (λ m. next 3 n m refl (λ m. next 4 n m refl (λ m.
    next 5 n m refl (λ m. next 6 n m refl (λ m. next 7 n m refl (λ m. next 8 n m refl (λ m. next 9 n m refl (λ m. absurd (omega arith)))))))))))
