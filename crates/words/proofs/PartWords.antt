-- The word of a part of a pattern stands for its step, where what the part holds lies in the row.
use mathlib.Core.Bool.{Bool, true, false}
use mathlib.Core.List.{List, [], ◌∷◌, map}
use mathlib.Core.Path.{◌≡◌, refl, sym, ◌∙◌}
use Prim.Native.Nat.{ℕ, ◌+◌, ◌*◌, ◌/◌, ◌%◌, ◌≤◌, ◌<◌}
use native.Mathlib.Omega.{arith}
use lib.Dec.{eqb}
use lib.ListN.{length, take, drop, replicate}
use borrow.Author.Tests.{eqb-true}
use Rattle.meaning.specs.Bytes.{quote}
use Rattle.meaning.specs.Rules.{role_of}
use Rattle.meaning.specs.Splitting.{Content, run, quotes, quoted, unclosed}
use Rattle.meaning.specs.Writing.{literal, run_step, ends_in_quote, step_of}
use Rattle.meaning.specs.declared.Pair.{Pair}
use Rattle.meaning.specs.declared.Role.{Role}
use Rattle.meaning.specs.declared.Role.TheVariants as role
use Rattle.laws.proofs.Ascii.{is_ascii, Ascii}
use Rattle.laws.proofs.Checks.{within-is}
use Rattle.laws.proofs.Table.{RoleHas}
use Rattle.laws.proofs.Tests.{by-test, both_true, every, true-is-not-false}
use Rattle.words.specs.Fields.{code, count, from, last_byte}
use Rattle.words.specs.Packing.{bit, byte_word, times_word, role_word, is_one, first_of, held_word, held_inside, held_in, rule_word, part_word}
use Rattle.words.specs.Pieces.{once, held_bytes, piece_step, pieces_of_code, pieces_in, steps_in}
use Rattle.words.specs.declared.pieces.Piece.{Piece}
use Rattle.words.specs.declared.pieces.Piece.TheVariants.{Times, Held}
use Rattle.words.proofs.TableWords.{Stands, role-stands}
use Rattle.words.proofs.WordFields.{field_is}

-- a byte by itself, and so often
byte-pieces : (b : ℕ) → b < 256 → pieces_in (byte_word b) ≡ once b ∷ []
unfolding pieces_in pieces_of_code
byte-pieces b fits =
    let c : code (byte_word b) ≡ 1 = omega arith in
    let l : last_byte (byte_word b) ≡ b = field_is 72057594037927936 256 1 b 0 _ (omega arith) (omega arith) fits in
    rw (c, l)

many-pieces : (b n : ℕ) → b < 256 → n < 512 → pieces_in (30 + 32 * n + 72057594037927936 * b) ≡ Times b n ∷ []
unfolding pieces_in pieces_of_code
many-pieces b n fits few =
    let w = 30 + 32 * n + 72057594037927936 * b in
    let c : code w ≡ 30 = omega arith in
    let k : count w ≡ n = field_is 32 512 30 n (4398046511104 * b) _ (omega arith) (omega arith) few in
    let l : last_byte w ≡ b = field_is 72057594037927936 256 (30 + 32 * n) b 0 _ (omega arith) (omega arith) fits in
    rw (c, k, l)

times-pieces : (b n : ℕ) → b < 256 → n < 512 → pieces_in (times_word b n) ≡ Times b n ∷ []
times-pieces b n fits few =
    by-test (eqb n 1) (λ e. rw (e, eqb-true n 1 e) (byte-pieces b fits)) (λ e. rw e (many-pieces b n fits few))

-- bytes held
lost-is : (lost : Bool) → eqb (bit lost) 1 ≡ lost
lost-is true = refl
lost-is false = refl

pub lost-few : (lost : Bool) → bit lost < 2
lost-few true = omega arith
lost-few false = omega arith

held-pieces : (at n : ℕ) (lost : Bool) → at < 512 → n < 512 → pieces_in (31 + 32 * n + 16384 * at + 8388608 * bit lost) ≡ Held at n lost ∷ []
unfolding pieces_in pieces_of_code
held-pieces at n lost there few =
    let w = 31 + 32 * n + 16384 * at + 8388608 * bit lost in
    let c : code w ≡ 31 = omega arith in
    let k : count w ≡ n = field_is 32 512 31 n (at + 512 * bit lost) _ (omega arith) (omega arith) few in
    let f : from w ≡ at = field_is 16384 512 (31 + 32 * n) at (bit lost) _ (omega arith) (omega arith) there in
    let l : w / 8388608 % 2 ≡ bit lost = field_is 8388608 2 (31 + 32 * n + 16384 * at) (bit lost) 0 _ (omega arith) (omega arith) (lost-few lost) in
    rw (c, k, f, l, lost-is)

-- their bytes are below 128, so that nothing of them is lost
bytes_same : (s : List ℕ) → Ascii s → map (λ w. w % 256) s ≡ s
unfolding every
bytes_same [] h = refl
bytes_same (b ∷ s) h =
    let t = both_true (is_ascii b) (every is_ascii s) h in
    let small : b % 256 ≡ b = omega (arith, (within-is 0 127 b t.0).1) in
    rw (small, bytes_same s t.1)

pub first_small : (s : List ℕ) → Ascii s → first_of s < 256
unfolding every
first_small [] h = omega arith
first_small (b ∷ s) h = omega (arith, (within-is 0 127 b (both_true (is_ascii b) (every is_ascii s) h).0).1)

one-is : (s : List ℕ) (lost : Bool) → is_one s lost ≡ true → literal (first_of s ∷ []) false ≡ literal s lost
one-is [] lost h = true-is-not-false (sym h)
one-is (b ∷ []) true h = true-is-not-false (sym h)
one-is (b ∷ []) false h = refl
one-is (a ∷ b ∷ s) lost h = absurd (let e = eqb-true (length (a ∷ b ∷ s)) 1 (both_true (eqb (length (a ∷ b ∷ s)) 1) _ h).0 in omega arith)

-- what a part of a pattern has: bytes that are bytes, and no more than a pattern
abbrev pub Packs : Content → Type 0
Packs (run b n) = (b < 128) × (0 < n) × (n ≤ 256)
Packs (quotes n) = (0 < n) × (n ≤ 256)
Packs (quoted s) = Ascii s × (length s ≤ 256)
Packs (unclosed s) = Ascii s × (length s ≤ 256)

module _ (row : List ℕ) where
  steps-are : (w : ℕ) {p : Piece} → pieces_in w ≡ p ∷ [] → steps_in row w ≡ piece_step row p ∷ []
  unfolding steps_in
  steps-are w e = rw e

  times-stands : (b n : ℕ) → b < 128 → n ≤ 256 → steps_in row (times_word b n) ≡ literal (replicate n b) false ∷ []
  times-stands b n fits few = steps-are (times_word b n) (times-pieces b n (omega arith) (omega arith)) ∙ (unfold piece_step in refl)

  role-word : (r : Role) (b n : ℕ) → RoleHas Stands r → b < 128 → n ≤ 256 → steps_in row (role_word r b n) ≡ run_step r b n ∷ []
  unfolding piece_step
  role-word role.Literal b n h fits few = times-stands b n fits few
  role-word (role.Symbol rule) b n h fits few = steps-are (rule_word rule) h.pieces

  inside-stands : (at : ℕ) (s : List ℕ) (lost : Bool) → at < 512 → Ascii s × (length s ≤ 256) → take (length (held_inside s lost)) (drop at row) ≡ held_inside s lost
      → steps_in row (held_word at s lost) ≡ literal s lost ∷ []
  unfolding piece_step held_bytes
  inside-stands at s lost there fine h =
      by-test (is_one s lost)
      (λ e. rw e (steps-are (byte_word (first_of s)) (byte-pieces (first_of s) (first_small s fine.0)) ∙ rw (one-is s lost e)))
      (λ e. let k : take (length s) (drop at row) ≡ s = rw e at h in
      rw e (steps-are _ (held-pieces at (length s) lost there (omega arith)) ∙ rw (k, bytes_same s fine.0)))

  pub part-stands : (pair : Pair) (at : ℕ) (c : Content) → at < 512 → Packs c → take (length (held_in c)) (drop at row) ≡ held_in c
      → steps_in row (part_word pair at c) ≡ step_of pair c ∷ []
  unfolding held_in part_word step_of
  part-stands pair at (run b n) there fine h = role-word (role_of pair b n) b n (role-stands n pair b fine.1 fine.2) fine.0 fine.2
  part-stands pair at (quotes n) there fine h = times-stands quote n (omega arith) fine.1
  part-stands pair at (quoted s) there fine h = inside-stands at s false there fine h
  part-stands pair at (unclosed s) there fine h = inside-stands at s (ends_in_quote s) there fine h
