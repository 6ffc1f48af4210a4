-- A figure and its eight bytes: each gives the other back, also in the midst of a sheet. Assumes nothing.
use Rattle.std.proofs.Common.{◌≡◌, ℕ, suc, ◌+◌, ◌-◌, ◌≤◌, List, ◌∷◌, ◌++◌, length, get_or, take, drop, ℤ, sym, refl, ap, ◌∙◌, add-one, arith, length-append, length-drop, take-append-drop, length-take-le, get_or-drop, drop-cons, drop-drop, w64, SFits, le-leb}
use Rattle.integers.specs.Bytes.{signed_of}
use Rattle.integers.proofs.Words.{front_bytes}
use Rattle.integers.proofs.TwosComplement.{bytes_back, number-back}
use Rattle.sheet.specs.Bytes.{word_of, count_at, figure_at, figure_bytes, Bytes}

-- ---- eight bytes

eight-back : (l : List ℕ) → length l ≡ 8 → Bytes l → figure_bytes (signed_of 64 (word_of l)) ≡ l
unfolding figure_bytes
eight-back l e h = bytes_back l e h

figure-back : (v : ℤ) (rest : List ℕ) → SFits w64 v → signed_of 64 (word_of (take 8 (figure_bytes v ++ rest))) ≡ v
unfolding figure_bytes
figure-back v rest h = number-back v h

pub figure-length : (v : ℤ) → length (figure_bytes v) ≡ 8
unfolding figure_bytes
figure-length v = refl

figure-drop : (v : ℤ) (rest : List ℕ) → drop 8 (figure_bytes v ++ rest) ≡ rest
unfolding figure_bytes
figure-drop v rest = refl

pub there-is : (s : List ℕ) (p : ℕ) → p + 8 ≤ length s → figure_at s p ≡ signed_of 64 (word_of (take 8 (drop p s)))
unfolding figure_at
there-is s p h = simp (le-leb _ _ h)

-- ---- from the sheet to the bytes of what it says

pub glue : (s : List ℕ) (p q : ℕ) {rest : List ℕ} → Bytes s → q ≡ p + 8 → q ≤ length s → drop q s ≡ rest → drop p s ≡ figure_bytes (figure_at s p) ++ rest
glue s p q {rest} h e l r =
    let n : length (take 8 (drop p s)) ≡ 8 = length-take-le 8 (drop p s) (simp length-drop (omega arith)) in
    let b = eight-back (take 8 (drop p s)) n (front_bytes 8 (drop p s) (λ i. rw get_or-drop (h (p + i)))) in
    let d : drop 8 (drop p s) ≡ rest = drop-drop 8 p s ∙ ap (λ (k : ℕ). drop k s) (sym e) ∙ r in
    sym (take-append-drop 8 (drop p s)) ∙ rw (there-is s p (omega arith), b, d)

pub glue-count : (s : List ℕ) (p q : ℕ) {rest : List ℕ} → q ≡ p + 1 → q ≤ length s → drop q s ≡ rest → drop p s ≡ count_at s p ∷ rest
glue-count s p q {rest} e l r = drop-cons s p 0 (omega arith) ∙ ap (λ (t : List ℕ). get_or s p 0 ∷ t) (ap (λ (k : ℕ). drop k s) (sym (e ∙ add-one p)) ∙ r)

-- ---- and from the bytes to what the sheet says

pub record Cut (s : List ℕ) (p q : ℕ) (v : ℤ) (rest : List ℕ) : Type 0 where
  pub is : figure_at s p ≡ v
  pub next : drop q s ≡ rest
  pub there : q ≤ length s

pub cut : (s : List ℕ) (p q : ℕ) (v : ℤ) (rest : List ℕ) → q ≡ p + 8 → SFits w64 v → drop p s ≡ figure_bytes v ++ rest → Cut s p q v rest
cut s p q v rest e h r =
    let l : length s - p ≡ 8 + length rest = sym (length-drop p s) ∙ ap length r ∙ length-append (figure_bytes v) rest ∙ ap (λ (k : ℕ). k + length rest) (figure-length v) in
    record {
      is = there-is s p (omega arith) ∙ ap (λ (t : List ℕ). signed_of 64 (word_of (take 8 t))) r ∙ figure-back v rest h;
      next = ap (λ (k : ℕ). drop k s) e ∙ sym (drop-drop 8 p s) ∙ ap (drop 8) r ∙ figure-drop v rest;
      there = omega arith;
    }

pub record CutCount (s : List ℕ) (p q b : ℕ) (rest : List ℕ) : Type 0 where
  pub is : count_at s p ≡ b
  pub next : drop q s ≡ rest
  pub there : q ≤ length s

pub cut-count : (s : List ℕ) (p q b : ℕ) (rest : List ℕ) → q ≡ p + 1 → drop p s ≡ b ∷ rest → CutCount s p q b rest
cut-count s p q b rest e r =
    let l : length s - p ≡ suc (length rest) = sym (length-drop p s) ∙ ap length r in
    let d = sym (drop-cons s p 0 (omega arith)) ∙ r in
    record { is = cc d; next = ap (λ (k : ℕ). drop k s) (e ∙ add-one p) ∙ cc d; there = omega arith }
