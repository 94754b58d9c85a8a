-- Which roles are literals.
use mathlib.Core.Bool.{Bool, true, false}
use mathlib.Core.List.{List, [], ◌∷◌}
use mathlib.Core.Path.{◌≡◌, refl, sym}
use Prim.Native.Nat.{ℕ, ◌<◌}
use native.Mathlib.Omega.{arith}
use lib.Dec.{eqb, leb}
use borrow.Author.Tests.{leb-true, ne_eqb}
use Rattle.meaning.specs.Rules.{Symbol, date_symbols, time_symbols, role_among, date_role, time_role, or_else, role_of}
use Rattle.meaning.specs.declared.Pair.{Pair}
use Rattle.meaning.specs.declared.Pair.TheVariants.{Full, Date}
use Rattle.meaning.specs.declared.Role.{Role}
use Rattle.meaning.specs.declared.Role.TheVariants.{Literal}
use Rattle.laws.proofs.Tests.{by-test, both_true, every, true-is-not-false}
use Rattle.rules.specs.Letters.{is_among}

-- a byte that is no letter of the symbols is a literal
absent : (symbols : List Symbol) (b c : ℕ) → is_among symbols b ≡ false → role_among symbols b c ≡ Literal
unfolding is_among role_among
absent [] b c h = refl
absent (symbol ∷ symbols) b c h =
    by-test (eqb b symbol.letter) (λ e. true-is-not-false (rw e at h)) (λ e. rw (e, absent symbols b c (rw e at h)))

-- no symbol stands below the letters

is_letter : Symbol → Bool
is_letter symbol = leb 65 symbol.letter

below : (symbols : List Symbol) → every is_letter symbols ≡ true → (b : ℕ) → b < 65 → is_among symbols b ≡ false
unfolding every is_letter is_among
below [] h b small = refl
below (symbol ∷ symbols) h b small =
    let both' = both_true (is_letter symbol) (every is_letter symbols) h in
    let letter = leb-true 65 symbol.letter both'.0 in
    rw (ne_eqb b symbol.letter (λ e. omega (arith, letter, e)), below symbols both'.1 b small)

pub below-letters : (pair : Pair) (b c : ℕ) → b < 65 → role_of pair b c ≡ Literal
unfolding role_of date_role time_role every is_letter
below-letters Full b c small =
    rw (absent date_symbols b c (below date_symbols refl b small), absent time_symbols b c (below time_symbols refl b small))
below-letters Date b c small = absent date_symbols b c (below date_symbols refl b small)

-- a letter of the symbols is none
present : (symbols : List Symbol) (b c : ℕ) (role : Role) → is_among symbols b ≡ true → or_else (role_among symbols b c) role ≡ role_among symbols b c
unfolding is_among role_among
present [] b c role h = true-is-not-false (sym h)
present (symbol ∷ symbols) b c role h =
    by-test (eqb b symbol.letter) (λ e. rw e) (λ e. rw e (present symbols b c role (rw e at h)))

pub is-date : (pair : Pair) (b c : ℕ) → is_among date_symbols b ≡ true → role_of pair b c ≡ date_role b c
unfolding role_of date_role
is-date Full b c h = present date_symbols b c (time_role b c) h
is-date Date b c h = refl

pub date-is-literal : (b c : ℕ) → is_among date_symbols b ≡ false → role_of Date b c ≡ Literal
unfolding role_of date_role
date-is-literal b c h = absent date_symbols b c h

pub full-is-time : (b c : ℕ) → is_among date_symbols b ≡ false → role_of Full b c ≡ time_role b c
unfolding role_of date_role
full-is-time b c h = rw (absent date_symbols b c h)
