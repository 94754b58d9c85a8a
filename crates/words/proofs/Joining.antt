-- Words joined stand for the steps of each, one after the other.
use mathlib.Core.Bool.{Bool, true, false}
use mathlib.Core.List.{List, [], ◌∷◌, ◌++◌, map-append, append_assoc}
use mathlib.Core.Path.{◌≡◌, refl, ap, ◌∙◌}
use Prim.Native.Nat.{ℕ, ◌+◌, ◌*◌, ◌/◌, ◌%◌, ◌<◌}
use native.Mathlib.Omega.{arith}
use lib.Dec.{eqb, ltb}
use borrow.Author.Tests.{eqb-true, ne_eqb, ltb-true}
use Rattle.meaning.specs.Bytes.{both}
use Rattle.laws.proofs.Tests.{by-test, both_true}
use Rattle.words.specs.Coding.{rule_of_kind, rule_in}
use Rattle.words.specs.Fields.{code, slot, first_byte, second_byte, last_byte}
use Rattle.words.specs.Packing.{is_number, joins_byte, with_byte, with_bytes, is_date, is_time, three_word, kept, joined}
use Rattle.words.specs.Pieces.{short_in, once, pieces_of_code, pieces_in, steps_in, steps_of}
use Rattle.words.proofs.WordFields.{same-field, three-code, three-first, three-second, three-last}

-- the six codes that have room for a byte
by_number : (P : ℕ → Type 0) → P 3 → P 4 → P 9 → P 10 → P 15 → P 22 → (c : ℕ) → is_number c ≡ true → P c
by_number P p3 p4 p9 p10 p15 p22 c h =
    by-test (eqb c 3) (λ e. rw (eqb-true c 3 e) p3)
    (λ n3. by-test (eqb c 4) (λ e. rw (eqb-true c 4 e) p4)
    (λ n4. by-test (eqb c 9) (λ e. rw (eqb-true c 9 e) p9)
    (λ n9. by-test (eqb c 10) (λ e. rw (eqb-true c 10 e) p10)
    (λ n10. by-test (eqb c 15) (λ e. rw (eqb-true c 15 e) p15)
    (λ n15. rw (eqb-true c 22 (rw (n3, n4, n9, n10, n15) at h)) p22)))))

-- a byte behind a number
module _ (w q : ℕ) (small : w < 72057594037927936) (some : 0 < q % 256) where
  last-is : last_byte (w + 72057594037927936 * q) ≡ q % 256
  last-is = omega arith

  last_none : last_byte w ≡ 0
  last_none = omega arith

  there : eqb (q % 256) 0 ≡ false
  there = ne_eqb (q % 256) 0 (λ e. omega arith)

  rule-same : rule_in (w + 72057594037927936 * q) ≡ rule_in w
  unfolding rule_of_kind
  rule-same =
      simp (
        same-field 32 16 140737488355328 (omega arith) refl w q,
        same-field 512 32 4398046511104 (omega arith) refl w q,
        same-field 16384 16 274877906944 (omega arith) refl w q,
        same-field 262144 16 17179869184 (omega arith) refl w q,
        same-field 4194304 16 1073741824 (omega arith) refl w q,
        same-field 67108864 32 33554432 (omega arith) refl w q,
        same-field 2147483648 8 4194304 (omega arith) refl w q,
        same-field 17179869184 2 2097152 (omega arith) refl w q,
        same-field 34359738368 2 1048576 (omega arith) refl w q,
        same-field 68719476736 4 262144 (omega arith) refl w q,
        same-field 274877906944 4 65536 (omega arith) refl w q,
      )

  slot_same : slot (w + 72057594037927936 * q) ≡ slot w
  slot_same = same-field 32 8 281474976710656 (omega arith) refl w q

  first-same : first_byte (w + 72057594037927936 * q) ≡ first_byte w
  first-same = same-field 1099511627776 256 256 (omega arith) refl w q

  second-same : second_byte (w + 72057594037927936 * q) ≡ second_byte w
  second-same = same-field 281474976710656 256 1 (omega arith) refl w q

  abbrev Joined : ℕ → Type 0
  Joined c = pieces_of_code c (w + 72057594037927936 * q) ≡ pieces_of_code c w ++ once (q % 256) ∷ []

  with-piece : (c : ℕ) → is_number c ≡ true → Joined c
  unfolding pieces_of_code
  with-piece =
      by_number Joined
      (rw (slot_same, last-is, last_none, there))
      (rw (slot_same, last-is, last_none, there))
      (rw (slot_same, last-is, last_none, there))
      (rw (first-same, second-same, last-is, last_none, there))
      (rw (first-same, second-same, last-is, last_none, there))
      (rw (rule-same, last-is, last_none, there))

-- the pieces of such a word, which is told by its lower bits
number-byte : (w n : ℕ) → w < 72057594037927936 → is_number (code w) ≡ true → n % 72057594037927936 ≡ w → 0 < last_byte n
    → pieces_in n ≡ pieces_in w ++ once (last_byte n) ∷ []
unfolding pieces_in
number-byte w n small h e some =
    let q = n / 72057594037927936 in
    let sum : n ≡ w + 72057594037927936 * q = omega arith in
    let same : code n ≡ code w = omega arith in
    rw same (ap (pieces_of_code (code w)) sum ∙ with-piece w q small some (code w) h)

byte-alone : (n : ℕ) → code n ≡ 1 → pieces_in n ≡ once (last_byte n) ∷ []
unfolding pieces_in pieces_of_code
byte-alone n e = rw e

-- where a byte joins a word
pub record Joins (w byte : ℕ) : Type 0 where
  pub small : w < 72057594037927936
  pub number : is_number (code w) ≡ true
  pub alone : byte % 72057594037927936 ≡ 1
  pub some : 0 < last_byte byte

pub byte-joins : (w byte : ℕ) → joins_byte w byte ≡ true → Joins w byte
byte-joins w byte h =
    let t = both_true (both (ltb w 72057594037927936) (is_number (code w))) _ h in
    let u = both_true (ltb w 72057594037927936) (is_number (code w)) t.0 in
    let v = both_true (eqb (byte % 72057594037927936) 1) (ltb 0 (last_byte byte)) t.1 in
    record {
      small = ltb-true w 72057594037927936 u.0;
      number = u.1;
      alone = eqb-true (byte % 72057594037927936) 1 v.0;
      some = ltb-true 0 (last_byte byte) v.1;
    }

pub joined-byte-fits : (w byte : ℕ) → joins_byte w byte ≡ true → byte < 18446744073709551616 → with_byte w byte < 18446744073709551616
joined-byte-fits w byte h fits = let j = byte-joins w byte h in omega arith

pub pieces-byte : (w byte : ℕ) → joins_byte w byte ≡ true → pieces_in (with_byte w byte) ≡ pieces_in w ++ pieces_in byte
pieces-byte w byte h =
    let j = byte-joins w byte h in
    let last : last_byte (with_byte w byte) ≡ last_byte byte = omega arith in
    let c : code byte ≡ 1 = omega arith in
    number-byte w (with_byte w byte) j.small j.number (omega arith) (omega arith) ∙ rw (last, byte-alone byte c)

-- Three numbers with bytes between them: what a word of that code stands for is what the three do.
module _ (k x y z : ℕ) (coded : k < 32) (first : is_number (code x) ≡ true) (second : is_number (code y) ≡ true) (small : x < 72057594037927936) (little : y < 72057594037927936)
    (all : (w : ℕ) → last_byte w ≡ 0 → pieces_of_code k w ≡ pieces_in x ++ once (first_byte w) ∷ (pieces_in y ++ once (second_byte w) ∷ pieces_in z)) where
  by_code : (w : ℕ) → code w ≡ k → pieces_in w ≡ pieces_of_code k w
  unfolding pieces_in
  by_code w e = rw e

  pieces-three : (a b c : ℕ) → c ≡ z → with_bytes x y a b ≡ true → pieces_in (three_word k a b) ≡ pieces_in a ++ (pieces_in b ++ pieces_in c)
  pieces-three a b c e h =
      let w = three_word k a b in
      let t = both_true (both (eqb (a % 72057594037927936) x) (ltb 0 (last_byte a))) _ h in
      let u = both_true (eqb (a % 72057594037927936) x) (ltb 0 (last_byte a)) t.0 in
      let v = both_true (eqb (b % 72057594037927936) y) (ltb 0 (last_byte b)) t.1 in
      let f = number-byte x a small first (eqb-true (a % 72057594037927936) x u.0) (ltb-true 0 (last_byte a) u.1) in
      let s = number-byte y b little second (eqb-true (b % 72057594037927936) y v.0) (ltb-true 0 (last_byte b) v.1) in
      let i : last_byte a < 256 = omega arith in
      let j : last_byte b < 256 = omega arith in
      let one = three-code k (last_byte a) (last_byte b) coded i j in
      let two = three-first k (last_byte a) (last_byte b) coded i j in
      let three = three-second k (last_byte a) (last_byte b) coded i j in
      let none = three-last k (last_byte a) (last_byte b) coded i j in
      by_code w one ∙ all w none ∙ rw (two, three, f, s, e) (simp append_assoc)

pub pieces-date : (a b c : ℕ) → is_date a b c ≡ true → pieces_in (three_word 15 a b) ≡ pieces_in a ++ (pieces_in b ++ pieces_in c)
pieces-date a b c h =
    let t = both_true (eqb c 35) (with_bytes 137 3 a b) h in
    pieces-three 15 137 3 35 (omega arith) refl refl (omega arith) (omega arith) (λ w e. unfold pieces_in pieces_of_code short_in in rw e) a b c (eqb-true c 35 t.0) t.1

pub pieces-time : (a b c : ℕ) → is_time a b c ≡ true → pieces_in (three_word 10 a b) ≡ pieces_in a ++ (pieces_in b ++ pieces_in c)
pieces-time a b c h =
    let t = both_true (eqb c 131) (with_bytes 67 99 a b) h in
    pieces-three 10 67 99 131 (omega arith) refl refl (omega arith) (omega arith) (λ w e. unfold pieces_in pieces_of_code short_in in rw e) a b c (eqb-true c 131 t.0) t.1

-- the four ways of `joined`
elim-is : {A : Type 0} (P : A → Type 0) (t : Bool) {x y : A} → (t ≡ true → P x) → (t ≡ false → P y) → P (elim t as (λ _. A) [ true ↦ x | false ↦ y ])
elim-is P true yes' no' = yes' refl
elim-is P false yes' no' = no' refl

pub by-joining : (P : List ℕ → Type 0) (a b w : ℕ) (ws : List ℕ) → (joins_byte b w ≡ true → P (joined a (with_byte b w) ws))
    → (is_date a b w ≡ true → P (joined 0 (three_word 15 a b) ws)) → (is_time a b w ≡ true → P (joined 0 (three_word 10 a b) ws))
    → P (kept a (joined b w ws)) → P (joined a b (w ∷ ws))
unfolding joined
by-joining P a b w ws byte date time none =
    elim-is P (joins_byte b w) byte (λ _. elim-is P (is_date a b w) date (λ _. elim-is P (is_time a b w) time (λ _. none)))

module _ (row : List ℕ) where
  kept-stands : (w : ℕ) (ws : List ℕ) → steps_of row (kept w ws) ≡ steps_in row w ++ steps_of row ws
  unfolding steps_of steps_in pieces_in pieces_of_code
  kept-stands w ws = by-test (eqb w 0) (λ e. rw (e, eqb-true w 0 e)) (λ e. rw e)

  byte-stands : (w byte : ℕ) → joins_byte w byte ≡ true → steps_in row (with_byte w byte) ≡ steps_in row w ++ steps_in row byte
  unfolding steps_in
  byte-stands w byte h = rw (pieces-byte w byte h, map-append)

  three-stand : (w a b c : ℕ) → pieces_in w ≡ pieces_in a ++ (pieces_in b ++ pieces_in c) → steps_in row w ≡ steps_in row a ++ (steps_in row b ++ steps_in row c)
  unfolding steps_in
  three-stand w a b c e = rw (e, map-append, map-append)

  pub joined-stands : (a b : ℕ) (ws : List ℕ) → steps_of row (joined a b ws) ≡ steps_in row a ++ (steps_in row b ++ steps_of row ws)
  unfolding joined steps_of
  joined-stands a b [] = rw (kept-stands, kept-stands)
  joined-stands a b (w ∷ ws) =
      by-joining (λ l. steps_of row l ≡ steps_in row a ++ (steps_in row b ++ (steps_in row w ++ steps_of row ws))) a b w ws
      (λ h. joined-stands a (with_byte b w) ws ∙ rw (byte-stands b w h, append_assoc))
      (λ h. joined-stands 0 (three_word 15 a b) ws ∙ rw (three-stand (three_word 15 a b) a b w (pieces-date a b w h), append_assoc, append_assoc))
      (λ h. joined-stands 0 (three_word 10 a b) ws ∙ rw (three-stand (three_word 10 a b) a b w (pieces-time a b w h), append_assoc, append_assoc))
      (kept-stands a (joined b w ws) ∙ rw (joined-stands b w ws))
