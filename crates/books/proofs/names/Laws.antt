-- Laws of a name where it stands, and of its letters byte by byte.
use mathlib.Core.Bool.{Bool, true, false, not, ◌&&◌, ◌||◌}
use mathlib.Core.List.{List, [], ◌∷◌}
use mathlib.Core.Path.{◌≡◌, refl, sym, ap, ◌∙◌}
use Prim.Native.Nat.{ℕ, ◌+◌, ◌<◌, min}
use native.Mathlib.Numerals.{add-one}
use native.Mathlib.Omega.{arith}
use borrow.Author.Tests.{eq-eqb, ne_eqb, eqb-true, eqb-false}
use lib.Dec.{eqb, leb}
use Rattle.std.specs.Char.{is_ascii_alphabetic}
use Rattle.std.specs.List.{list_all, list_any, zip}
use Rattle.laws.proofs.Tests.{by-test}
use Rattle.meaning.specs.Bytes.{both, when}
use lib.ListN.{length, get_or, take, drop}
use lib.Seq.{drop-cons}
use Rattle.books.specs.Places.{name_in}
use Rattle.meaning.specs.Books.{is_letter, all_letters, apart}
use Rattle.meaning.specs.Readers.{begins}

-- where a name stands

module _ (s : List ℕ) (at : ℕ) where
  module _ (there : at < length s) (byte : get_or s at 0 < 256) where
    pub name-there : name_in s at ≡ take (get_or s at 0) (drop (at + 1) s)
    name-there =
        let whole : min (get_or s at 0) 255 ≡ get_or s at 0 = omega arith in
        rw (drop-cons s at 0 there, whole, add-one)

-- the letters of a name

two-ranges : (p q r t : Bool) → ((p && q) || (r && t)) ≡ when (both p q) true (both r t)
two-ranges true true r t = refl
two-ranges true false true t = refl
two-ranges true false false t = refl
two-ranges false q true t = refl
two-ranges false q false t = refl

then-both : (p q : Bool) → (p && q) ≡ both p q
then-both true q = refl
then-both false q = refl

pub letters-all : (s : List ℕ) → list_all is_ascii_alphabetic s ≡ all_letters s
unfolding all_letters
letters-all [] = refl
letters-all (b ∷ s) =
    then-both (is_ascii_alphabetic b) (list_all is_ascii_alphabetic s)
    ∙ ap (λ (p : Bool). both p (list_all is_ascii_alphabetic s)) (two-ranges (leb 65 b) (leb b 90) (leb 97 b) (leb b 122))
    ∙ ap (both (is_letter b)) (letters-all s)

-- two names

abbrev pub differ : ℕ × ℕ → Bool
differ p = not (eqb p.0 p.1)

pub differ-apart : (a b : List ℕ) → list_any differ (zip a b) ≡ apart a b
unfolding begins
differ-apart [] b = refl
differ-apart (x ∷ a) [] = refl
differ-apart (x ∷ a) (y ∷ b) =
    by-test (eqb x y)
    (λ t. let e : x ≡ y = eqb-true x y t in rw (e, eq-eqb y y refl) (differ-apart a b))
    (λ t. let e : (x ≡ y → ⊥) = eqb-false x y t in rw (t, ne_eqb y x (λ d. e (sym d))) refl)
