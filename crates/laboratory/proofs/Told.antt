-- What each number of a move says, and what a reader is told of the sheets written. Assumes nothing.
use mathlib.Core.Path.{◌≡◌, refl, sym, ◌∙◌, ap, ap₂}
use mathlib.Core.Bool.{Bool, true, false, cond}
use mathlib.Core.Logic.{◌⊎◌, inl, inr, ⊎_elim}
use mathlib.Core.List.{List, [], ◌∷◌, ◌++◌}
use Prim.Native.Nat.{ℕ, suc, ◌<◌, ◌≤◌}
use native.Mathlib.Omega.{arith}
use lib.Dec.{ltb}
use lib.IntN.{ℤ, pos}
use lib.ListN.{length, drop}
use lib.Signed.{lt_z}
use borrow.Author.Tests.{lt-ltb, le-ltb, eq-eqb}
use Rattle.sheet.specs.Bytes.{count_at}
use Rattle.sheet.specs.Places.{identity_size}
use Rattle.sheet.specs.Judge.{◌then◌, short_of, out_of_range}
use Rattle.sheet.specs.Read.{old_number, read_old}
use Rattle.sheet.specs.Forms.{serial_most, day_most, identity_at, identity_bytes, identity_number, given_number, own_identity_number, new_number, sheet_number, read_sheet, no_identity, contents_of}
use Rattle.sheet.specs.BothForms.{InRange}
use Rattle.sheet.specs.declared.Contents.{Contents}
use Rattle.sheet.specs.declared.Identity.{Identity}
use Rattle.sheet.specs.Sheet.{Sheet}
use Rattle.sheet.proofs.Chain.{then-none, both}
use Rattle.sheet.proofs.Numbers.{in-short, in_count, count-wrong}
use Rattle.sheet.proofs.Judged.{faultless}
use Rattle.sheet.proofs.EitherForm.{given-in, section-none, reads_old, tells}
use Rattle.sheet.proofs.NewForm.{identity-back, new-marked, new-read, old-marked, same_read}
use Rattle.laboratory.specs.Moves.{scratch_least, buffers_number}

-- ---- a given identity: 0, or 3

either : (t u : Bool) → (cond {A = ℕ} t 3 (cond u 3 0) ≡ 0) ⊎ (cond {A = ℕ} t 3 (cond u 3 0) ≡ 3)
either true u = inr refl
either false true = inr refl
either false false = inl refl

in-or-out : (most : ℕ) (v : ℤ) → (out_of_range (pos 0) (pos most) v ≡ 0) ⊎ (out_of_range (pos 0) (pos most) v ≡ 3)
unfolding out_of_range
in-or-out most v = either (lt_z v (pos 0)) (lt_z (pos most) v)

-- the count is right, and the first of the two counts
pub given_out : (i : Identity) → (InRange i → ⊥) → given_number i ≡ 3
unfolding identity_number
given_out i h =
    let counted = in_count {least = 2} {most = 2} {n = 2} (omega arith) (omega arith) in
    ⊎_elim
    (λ a. ⊎_elim (λ b. absurd (h (given-in i (both counted (both a b))))) (λ b. ap₂ ◌then◌ counted (ap₂ ◌then◌ a b)) (in-or-out day_most i.day))
    (λ a. ap₂ ◌then◌ counted (ap₂ ◌then◌ a refl))
    (in-or-out serial_most i.serial)

-- ---- buffers

pub short-buffers : (written out scratch : ℕ) → (out < written) ⊎ (scratch < scratch_least) → buffers_number written out scratch ≡ 19
unfolding buffers_number
short-buffers written out scratch h = ⊎_elim (λ l. rw (lt-ltb out written l)) (λ l. rw (lt-ltb scratch scratch_least l) (pick (ltb out written))) h
  where
    pick : (t : Bool) → cond {A = ℕ} t 19 19 ≡ 19
    pick true = refl
    pick false = refl

pub roomy-buffers : {written out scratch : ℕ} → written ≤ out → scratch_least ≤ scratch → buffers_number written out scratch ≡ 0
unfolding buffers_number
roomy-buffers h k = rw (le-ltb _ _ h, le-ltb _ _ k)

-- ---- the other form at a move back

pub new-other : (count : ℕ) (rest : List ℕ) → (count ≡ 2 → ⊥) → new_number (count ∷ rest) ≡ 2
unfolding new_number own_identity_number identity_number
new-other count rest k = rw (in-short {room = suc (length rest)} {end = 1} (omega arith), count-wrong {n = 2} k)

pub new-first : (rest : List ℕ) → sheet_number (2 ∷ rest) ≡ new_number (2 ∷ rest)
unfolding sheet_number
new-first rest = refl

pub new-empty : new_number [] ≡ 1
unfolding new_number own_identity_number identity_number short_of
new-empty = refl

-- ---- what is read of an accepted old sheet, and of the same behind an identity

read_none : (s : List ℕ) → old_number s ≡ 0 → (read_sheet s).number ≡ 0
unfolding read_old
read_none s h = ap (λ (r : Sheet). r.number) (reads_old s (old-marked s h)) ∙ h

pub old-told : (s : List ℕ) → old_number s ≡ 0 → contents_of s ≡ record { number = 0; form = 4; identity = no_identity; figures = (read_sheet s).figures }
old-told s h = sym (rw (faultless s h).cell-count at (tells s false refl (read_none s h) (old-marked s h)))

first_count : (i : Identity) (s : List ℕ) → count_at (identity_bytes i ++ s) 0 ≡ 2
unfolding identity_bytes
first_count i s = refl

pub new_told : (s : List ℕ) (i : Identity) → old_number s ≡ 0 → given_number i ≡ 0 → contents_of (identity_bytes i ++ s) ≡ record { number = 0; form = 2; identity = i; figures = (read_sheet s).figures }
new_told s i h g =
    let t = identity_bytes i ++ s in
    let same : read_sheet t ≡ read_sheet s = new-read i s g ∙ sym (reads_old s (old-marked s h)) in
    let none : (read_sheet t).number ≡ 0 = ap (λ (r : Sheet). r.number) same ∙ read_none s h in
    let two : count_at t 0 ≡ 2 = first_count i s in
    sym (rw (two, identity-back i s g, same) at (tells t true refl none (new-marked i s g)))

pub new-identity : (s : List ℕ) → new_number s ≡ 0 → (contents_of s).identity ≡ identity_at s
unfolding new_number
new-identity s h =
    let z = then-none {a = own_identity_number s} h in
    let two = eq-eqb (count_at s 0) 2 (section-none s z.0).count-is in
    let none : (read_sheet s).number ≡ 0 = ap (λ (r : Sheet). r.number) (sym (same_read s h)) ∙ read_none (drop identity_size s) z.1 in
    ap (λ (c : Contents). c.identity) (sym (tells s true refl none two))
