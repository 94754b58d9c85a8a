-- How long a mended pattern can be, and how many changes it can have: one for each two of its bytes at most.
use mathlib.Core.Bool.{true, false}
use mathlib.Core.List.{List, [], ◌∷◌, ◌++◌, map}
use mathlib.Core.Logic.{◌⊎◌, inl, inr, ⊎_elim}
use mathlib.Core.Path.{◌≡◌, refl, sym, ◌∙◌}
use Prim.Native.Nat.{ℕ, ◌+◌, ◌*◌, ◌≤◌}
use native.Mathlib.Omega.{arith}
use lib.Dec.{eqb}
use lib.ListN.{length, replicate, length-append, length-replicate}
use borrow.Author.Tests.{eqb-false}
use Rattle.meaning.specs.Mending.{space, part_bytes, mend_part, change, listed, own_change}
use Rattle.meaning.specs.Splitting.{Content, run, quotes, quoted, unclosed, contents, length_of}
use Rattle.meaning.specs.Writing.{Step, step_of}
use Rattle.meaning.specs.declared.Change.{Change}
use Rattle.meaning.specs.declared.Edition.{Edition}
use Rattle.meaning.specs.declared.Pair.TheVariants.{Full}
use Rattle.laws.proofs.PartBytes.{part_length}
use Rattle.laws.proofs.PartsApart.{Held, Well, parts-stand-well}
use Rattle.laws.proofs.Splitting.{total, parts-fill}
use Rattle.laws.proofs.Tests.{by-test, true-is-not-false, when-is}
use Rattle.trust.proofs.MendedNeeds.{by-change, is_same}
use Rattle.trust.proofs.Mending.{same-anywhere}
use Rattle.trust.proofs.Undoing.{change-longer}
use Rattle.trust.specs.Check.{meets}
use Rattle.trust.specs.Mending.{spaces_for, spaces_before, full_steps, gap, mended_bytes, mended, changes_from, changes}
use Rattle.trust.specs.Needs.{step_need}
use Rattle.trust.specs.declared.Need.{Need}
use Rattle.trust.specs.declared.Need.TheVariants.{Nothing, NoDigit, NoSecondDigit, Broken, LosesYear}

for-small : (need : Need) → spaces_for need ≤ 2
for-small Nothing = omega arith
for-small NoDigit = omega arith
for-small NoSecondDigit = omega arith
for-small Broken = omega arith
for-small LosesYear = omega arith

gap-small : (edition : Edition) (c : Content) (cs : List Content) → gap edition c cs ≤ 2
unfolding gap
gap-small edition c cs =
    let need = step_need edition (step_of Full (mend_part edition c)) in
    when-is (λ n. n ≤ 2) (meets need (full_steps (map (mend_part edition) cs))) (λ e. omega arith) (λ e. for-small need)

part-some : (c : Content) → Held c → 1 ≤ length_of c
unfolding length_of
part-some (run b n) h = h.0
part-some (quotes n) h = omega arith
part-some (quoted s) h = omega arith
part-some (unclosed s) h = omega arith

change-short : (edition : Edition) (c : Content) → length_of (mend_part edition c) ≤ length_of c + 2
unfolding length_of
change-short edition =
    by-change edition (λ c d. length_of d ≤ length_of c + 2) (λ c e. omega arith) (λ f. omega arith) (omega arith) (omega arith) (omega arith) (λ s e. omega arith)

-- the mended pattern, part by part
pub mended-length : (edition : Edition) (c : Content) (cs : List Content)
    → length (mended_bytes edition (c ∷ cs)) ≡ length_of (mend_part edition c) + gap edition c cs + length (mended_bytes edition cs)
unfolding mended_bytes
mended-length edition c cs =
    let m = mend_part edition c in
    let k = gap edition c cs in
    omega (arith, length-append (part_bytes m ++ replicate k space) (mended_bytes edition cs), length-append (part_bytes m) (replicate k space), part_length m, length-replicate k space)

parts-short : (edition : Edition) (cs : List Content) → Well cs → length (mended_bytes edition cs) ≤ 5 * total cs
unfolding total
parts-short edition [] w = unfold mended_bytes in omega arith
parts-short edition (c ∷ cs) w =
    omega (arith, mended-length edition c cs, gap-small edition c cs, change-short edition c, part-some c w.0, parts-short edition cs w.2)

pub mended-short : (edition : Edition) (p : List ℕ) → length (mended edition p) ≤ 5 * length p
unfolding mended
mended-short edition p = rw (← parts-fill p) (parts-short edition (contents p) (parts-stand-well p))

-- changes

listed-few : (c : Change) → length (listed c) ≤ 1
listed-few c = when-is (λ (l : List Change). length l ≤ 1) (eqb c.before c.after) (λ e. omega arith) (λ e. omega arith)

spaces-few : (at k : ℕ) → length (listed (change at space 0 k)) ≤ k
spaces-few at k =
    when-is (λ (l : List Change). length l ≤ k) (eqb 0 k) (λ e. omega arith) (λ e. let z = eqb-false 0 k e in omega (arith, z))

same-unlisted : (edition : Edition) (at : ℕ) (c : Content) → is_same edition c ≡ true → length (listed (own_change edition at c)) ≡ 0
same-unlisted edition at c e = rw (same-anywhere edition at c, e)

-- a part that is changed gets no spaces, or is four bytes long at least
changed-long : (edition : Edition) (ss : List Step) (c : Content) → is_same edition c ≡ false
    → (2 ≤ length_of (mend_part edition c)) × ((spaces_before (step_need edition (step_of Full (mend_part edition c))) ss ≡ 0) ⊎ (4 ≤ length_of (mend_part edition c)))
unfolding length_of step_of step_need meets
changed-long edition ss =
    by-change edition (λ c d. is_same edition c ≡ false → (2 ≤ length_of d) × ((spaces_before (step_need edition (step_of Full d)) ss ≡ 0) ⊎ (4 ≤ length_of d)))
    (λ c e h. true-is-not-false (sym e ∙ h)) (λ f h. (omega arith, inl (rw f))) (λ h. (omega arith, inr (omega arith)))
    (λ h. (omega arith, inr (omega arith))) (λ h. (omega arith, inr (omega arith))) (λ s e h. (omega arith, inl refl))

changed-gap : (edition : Edition) (c : Content) (cs : List Content) → is_same edition c ≡ false
    → (2 ≤ length_of (mend_part edition c)) × ((gap edition c cs ≡ 0) ⊎ (4 ≤ length_of (mend_part edition c)))
unfolding gap
changed-gap edition c cs e = changed-long edition (full_steps (map (mend_part edition) cs)) c e

few-each : (edition : Edition) (at behind : ℕ) (c : Content) (cs : List Content) → Held c
    → 2 * (length (listed (own_change edition at c)) + length (listed (change behind space 0 (gap edition c cs)))) ≤ length_of (mend_part edition c) + gap edition c cs
few-each edition at behind c cs h =
    let own = own_change edition at c in
    let k = gap edition c cs in
    let one = listed-few own in
    let few = spaces-few behind k in
    let once = listed-few (change behind space 0 k) in
    by-test (is_same edition c)
    (λ e. omega (arith, same-unlisted edition at c e, few, once, part-some c h, change-longer edition c))
    (λ e.
    let long = changed-gap edition c cs e in
    ⊎_elim (λ z. omega (arith, z, few, one, long.0)) (λ z. omega (arith, once, one, z)) long.1)

few-from : (edition : Edition) (at : ℕ) (cs : List Content) → Well cs → 2 * length (changes_from edition at cs) ≤ length (mended_bytes edition cs)
unfolding changes_from
few-from edition at [] w = omega arith
few-from edition at (c ∷ cs) w =
    let behind = at + length_of (mend_part edition c) in
    let k = gap edition c cs in
    let own = listed (own_change edition at c) in
    let spaces = listed (change behind space 0 k) in
    let rest = changes_from edition (behind + k) cs in
    omega (arith, length-append (own ++ spaces) rest, length-append own spaces, few-each edition at behind c cs w.0, few-from edition (behind + k) cs w.2, mended-length edition c cs)

pub few-changes : (edition : Edition) (p : List ℕ) → 2 * length (changes edition p) ≤ length (mended edition p)
unfolding changes mended
few-changes edition p = few-from edition 0 (contents p) (parts-stand-well p)
