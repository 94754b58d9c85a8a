-- Laws of checks that stand one behind the other: what it says that none refuses.
use Rattle.std.specs.Prelude.{Ok, Err}
use mathlib.Core.Bool.{Bool, true, false}
use mathlib.Core.List.{List, [], ◌∷◌}
use mathlib.Core.Path.{◌≡◌, refl, sym}
use Prim.Native.Nat.{ℕ, suc, ◌≤◌}
use native.Mathlib.Omega.{arith}
use lib.Dec.{leb}
use lib.IntN.{ℤ}
use lib.ListN.{length}
use borrow.Author.Tests.{leb-true, le-leb}
use Rattle.meaning.specs.Answers.{◌else◌, refuse_unless, within, byte_check, bytes_check, ends_in_lone_quote, pattern_check, fields_check, room_check, text_check, current_year_check}
use Rattle.meaning.specs.Bytes.{when}
use Rattle.meaning.specs.Names.{Book}
use Rattle.meaning.specs.Splitting.{contents}
use Rattle.meaning.specs.Trust.{trust_check}
use Rattle.meaning.specs.Whole.{text, write_check, read_check}
use Rattle.meaning.specs.Results.{Checked}
use Rattle.meaning.specs.declared.Edition.{Edition}
use Rattle.meaning.specs.declared.Fields.{Fields}
use Rattle.meaning.specs.declared.Pair.{Pair}
use Rattle.meaning.specs.declared.Refusal.{Refusal}
use Rattle.meaning.specs.declared.Refusal.TheVariants.{PatternTooLong, PatternByte, NoRoom, TextTooLong, TextByte}
use Rattle.laws.proofs.Tests.{by-test, both_true, both-are, every}

not-fine : (why : Refusal) → ◌≡◌ {A = Checked} (Err why) (Ok tt) → ⊥
not-fine why h = let z : ◌≡◌ {A = ℕ} 0 1 = cc in omega arith

-- both checks are fine where the first that refuses is none
pub else-fine : (a b : Checked) → (a else b) ≡ Ok tt → (a ≡ Ok tt) × (b ≡ Ok tt)
else-fine (Ok _) b h = (refl, h)
else-fine (Err why) b h = absurd (not-fine why h)

pub else-assoc : (a b c : Checked) → ((a else b) else c) ≡ (a else (b else c))
else-assoc (Ok _) b c = refl
else-assoc (Err why) b c = refl

pub within-is : (low high n : ℕ) → within low high n ≡ true → (low ≤ n) × (n ≤ high)
within-is low high n t = let w = both_true (leb low n) (leb n high) t in (leb-true low n w.0, leb-true n high w.1)

pub fine-unless : (t : Bool) (why : Refusal) → refuse_unless t why ≡ Ok tt → t ≡ true
fine-unless true why h = refl
fine-unless false why h = absurd (not-fine why h)

-- no byte is refused where all are within the limits, wherever the count starts
module _ (why : ℕ → Refusal) (low high : ℕ) where
  pub bytes-within : (i : ℕ) (s : List ℕ) → byte_check why low high i s ≡ Ok tt → every (within low high) s ≡ true
  unfolding byte_check every
  bytes-within i [] h = refl
  bytes-within i (b ∷ s) h =
      by-test (within low high b)
      (λ e. both-are (within low high b) (every (within low high) s) e (bytes-within (suc i) s (rw (e, byte_check) at h)))
      (λ e. absurd (not-fine (why i) (rw (e, byte_check) at h)))

  pub within-bytes : (i : ℕ) (s : List ℕ) → every (within low high) s ≡ true → byte_check why low high i s ≡ Ok tt
  unfolding byte_check every
  within-bytes i [] h = refl
  within-bytes i (b ∷ s) h =
      let t = both_true (within low high b) (every (within low high) s) h in
      rw (t.0, byte_check) (within-bytes (suc i) s t.1)

-- what a pattern whose checks are fine can rely on, and what they ask for
pub record Accepted (p : List ℕ) : Type 0 where
  pub short : length p ≤ 256
  pub bytes : every (within 1 127) p ≡ true
  pub quotes : ends_in_lone_quote (contents p) ≡ false

pub fine-short : (p : List ℕ) → bytes_check p ≡ Ok tt → length p ≤ 256
unfolding bytes_check
fine-short p h = leb-true (length p) 256 (fine-unless (leb (length p) 256) _ (else-fine _ (byte_check PatternByte 1 127 0 p) h).0)

fine-quotes : (t : Bool) (why : Refusal) → ◌≡◌ {A = Checked} (when t (Err why) (Ok tt)) (Ok tt) → t ≡ false
fine-quotes true why h = absurd (not-fine why h)
fine-quotes false why h = refl

pub pattern-fine : (p : List ℕ) → pattern_check p ≡ Ok tt → Accepted p
unfolding pattern_check bytes_check
pattern-fine p h =
    let t = else-fine (bytes_check p) _ h in
    let short = refuse_unless (leb (length p) 256) (PatternTooLong (length p)) in
    record {
      short = fine-short p t.0;
      bytes = bytes-within PatternByte 1 127 0 p (else-fine short _ t.0).1;
      quotes = fine-quotes (ends_in_lone_quote (contents p)) _ t.1;
    }

module _ (p : List ℕ) (h : Accepted p) where
  pub fine-bytes : bytes_check p ≡ Ok tt
  unfolding bytes_check
  fine-bytes = rw (le-leb (length p) 256 h.short) (within-bytes PatternByte 1 127 0 p h.bytes)

  pub fine-pattern : pattern_check p ≡ Ok tt
  unfolding pattern_check
  fine-pattern = rw (fine-bytes, h.quotes)

-- what a write whose checks are fine can rely on
pub record Writes (pair : Pair) (book : Book) (p : List ℕ) (f : Fields) (room : ℕ) : Type 0 where
  pub pattern : pattern_check p ≡ Ok tt
  pub fields : fields_check f ≡ Ok tt
  pub fits : length (text pair book p f) ≤ room

pub write-fine : (pair : Pair) (book : Book) (p : List ℕ) (f : Fields) (room : ℕ) → write_check pair book p f room ≡ Ok tt → Writes pair book p f room
unfolding write_check
write-fine pair book p f room h =
    let n = length (text pair book p f) in
    let a = else-fine (pattern_check p) (fields_check f else room_check room n) h in
    let b = else-fine (fields_check f) (room_check room n) a.1 in
    record { pattern = a.0; fields = b.0; fits = leb-true n room (fine-unless (leb n room) (NoRoom n) b.1) }

-- and what it asks for
module _ {pair : Pair} {book : Book} {p : List ℕ} {f : Fields} {room : ℕ} (h : Writes pair book p f room) where
  pub fine-write : write_check pair book p f room ≡ Ok tt
  unfolding write_check
  fine-write = rw (h.pattern, h.fields, le-leb (length (text pair book p f)) room h.fits)

-- what a text whose checks are fine can rely on
pub text-short : (s : List ℕ) → text_check s ≡ Ok tt → length s ≤ 2048
unfolding text_check
text-short s h =
    let short = refuse_unless (leb (length s) 2048) (TextTooLong (length s)) in
    leb-true (length s) 2048 (fine-unless (leb (length s) 2048) _ (else-fine short (byte_check TextByte 0 127 0 s) h).0)

-- the checks of a read: those of its pattern and year, which any number of texts share, and then those of its text
pub read-checks : (edition : Edition) (p s : List ℕ) (current : ℤ) → read_check edition p s current ≡ (trust_check edition p current else text_check s)
unfolding read_check trust_check
read-checks edition p s current = sym (else-assoc (pattern_check p) (current_year_check edition current) (text_check s))
