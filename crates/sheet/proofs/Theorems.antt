-- What a laboratory and a plant may rely on of sheets of either form, over all bytes and all figures. Assumes nothing.
use Rattle.std.proofs.Common.{◌≡◌, ℕ, ◌+◌, Bool, true, false, ◌⊎◌, ◌↔◌, List, ◌++◌, drop, sym, refl, ap, ◌∙◌, subst, inl, inr, ⊎_elim, arith, get_or-drop, ne_eqb, eqb-true}
use Rattle.figures.specs.Acceptable.{Acceptable}
use Rattle.figures.specs.Unused.{unused_zero}
use Rattle.figures.specs.Representable.{Representable, Fitting}
use Rattle.figures.specs.declared.Calibration.{Calibration}
use Rattle.sheet.specs.declared.Identity.{Identity}
use Rattle.sheet.specs.Sheet.{Sheet}
use Rattle.sheet.specs.Bytes.{count_at, Bytes}
use Rattle.sheet.specs.Places.{identity_size}
use Rattle.sheet.specs.Judge.{figures_number}
use Rattle.sheet.specs.Read.{read_old, no_figures}
use Rattle.sheet.specs.Write.{cell_bytes, sheet_bytes}
use Rattle.sheet.specs.Forms.{identity_at, identity_bytes, own_identity_number, is_new, new_number, sheet_number, old_of, read_sheet}
use Rattle.sheet.specs.BothForms.{InRange}
use Rattle.sheet.proofs.Chain.{then-none}
use Rattle.sheet.proofs.OldForm as old
pub use Rattle.sheet.proofs.OldForm.{judged-acceptable, written-length, BytesOf, Accepted}
use Rattle.sheet.proofs.EitherForm.{given-in, in-given, section-none, reads_old}
use Rattle.sheet.proofs.NewForm.{new_is, new-read}

-- ---- "The writer keeps to the old sheet"

pub written-old : (c : Calibration) → count_at (sheet_bytes c) 0 ≡ 4
unfolding sheet_bytes cell_bytes
written-old c = refl

not_new : (c : Calibration) → is_new (sheet_bytes c) ≡ false
not_new c = rw (written-old c)

-- figures judged by themselves are judged as their bytes are
pub written-judged : (c : Calibration) → Representable c → Fitting c → sheet_number (sheet_bytes c) ≡ figures_number c
unfolding sheet_number
written-judged c r f = rw (not_new c) (old.written-judged c r f)

-- figures written and read come back, unused points 0
pub written_read : (c : Calibration) → Representable c → Acceptable c → read_sheet (sheet_bytes c) ≡ record { number = 0; figures = unused_zero c }
written_read c r h = reads_old (sheet_bytes c) (not_new c) ∙ old.written_read c r h

-- ---- a sheet is read as the old sheet in it

module _ (s : List ℕ) where
  read-by : (new : Bool) → is_new s ≡ new → (read_sheet s).number ≡ 0 → read_sheet s ≡ read_old (old_of s)
  unfolding read_sheet sheet_number new_number old_of read_old
  read-by true e h = let z = then-none {a = own_identity_number s} (rw e at h) in rw (e, z.0)
  read-by false e h = rw e

  pub read-old : (read_sheet s).number ≡ 0 → read_sheet s ≡ read_old (old_of s)
  read-old = read-by (is_new s) refl

  old-none : (read_sheet s).number ≡ 0 → (read_old (old_of s)).number ≡ 0
  old-none h = sym (ap (λ (r : Sheet). r.number) (read-old h)) ∙ h

  old-bytes-by : (new : Bool) → is_new s ≡ new → Bytes s → Bytes (old_of s)
  unfolding old_of
  old-bytes-by true e b = rw e (λ i. rw get_or-drop (b (identity_size + i)))
  old-bytes-by false e b = rw e b

  old_bytes : Bytes s → Bytes (old_of s)
  old_bytes = old-bytes-by (is_new s) refl

  -- what an accepted sheet gives
  pub read-accepted : (read_sheet s).number ≡ 0 → Accepted (read_sheet s).figures
  read-accepted h = subst (λ (r : Sheet). Accepted r.figures) (sym (read-old h)) (old.read-accepted (old_of s) (old-none h))

  -- an accepted sheet's figures write the old sheet in it
  pub read-written : Bytes s → (read_sheet s).number ≡ 0 → sheet_bytes (read_sheet s).figures ≡ old_of s
  read-written b h = ap (λ (r : Sheet). sheet_bytes r.figures) (read-old h) ∙ old.read-written (old_of s) (old_bytes b) (old-none h)

  -- beside a refusal all figures are 0
  pub refused-zeros : ((read_sheet s).number ≡ 0 → ⊥) → (read_sheet s).figures ≡ no_figures
  unfolding read_sheet
  refused-zeros h = simp (ne_eqb _ 0 h)

  same_by : (new : Bool) → is_new s ≡ new → count_at s 0 ≡ 4 → old_of s ≡ s
  unfolding old_of
  same_by true e h = absurd (omega (arith, h, eqb-true (count_at s 0) 2 e))
  same_by false e h = rw e

  -- "so only old sheets write back to their bytes"
  pub writes-back : Bytes s → (read_sheet s).number ≡ 0 → (sheet_bytes (read_sheet s).figures ≡ s) ↔ (count_at s 0 ≡ 4)
  unfolding sheet_bytes cell_bytes
  writes-back b h = (λ e. ap (λ (x : List ℕ). count_at x 0) (sym e), λ e. read-written b h ∙ same_by (is_new s) refl e)

-- ---- a sheet is accepted if and only if it is the bytes of acceptable figures, by themselves or behind those of an identity in range

pub record NewBytesOf (s : List ℕ) : Type 0 where
  pub identity : Identity
  pub in-range : InRange identity
  pub old-sheet : List ℕ
  pub of-figures : BytesOf old-sheet
  pub are : s ≡ identity_bytes identity ++ old-sheet

module _ (s : List ℕ) (b : Bytes s) where
  bytes-by : (new : Bool) → is_new s ≡ new → (read_sheet s).number ≡ 0 → BytesOf s ⊎ NewBytesOf s
  unfolding read_sheet sheet_number new_number read_old
  bytes-by true e h =
      let z = then-none {a = own_identity_number s} (rw e at h) in
      inr (record {
        identity = identity_at s;
        in-range = given-in (identity_at s) (section-none s z.0).given;
        old-sheet = drop identity_size s;
        of-figures = (old.accepted (drop identity_size s) (λ i. rw get_or-drop (b (identity_size + i)))).0 z.1;
        are = sym (new_is s b z.0);
      })
  bytes-by false e h = inl ((old.accepted s b).0 (rw e at h))

  from_old : BytesOf s → (read_sheet s).number ≡ 0
  from_old f = ap (λ (x : List ℕ). (read_sheet x).number) f.are ∙ ap (λ (x : Sheet). x.number) (written_read f.figures f.representable f.acceptable)

  from-new : NewBytesOf s → (read_sheet s).number ≡ 0
  from-new f =
      let g = f.of-figures in
      ap (λ (x : List ℕ). (read_sheet x).number) f.are
      ∙ ap (λ (x : Sheet). x.number) (new-read f.identity f.old-sheet (in-given f.identity f.in-range))
      ∙ ap (λ (x : List ℕ). (read_old x).number) g.are
      ∙ ap (λ (x : Sheet). x.number) (old.written_read g.figures g.representable g.acceptable)

  pub accepted : ((read_sheet s).number ≡ 0) ↔ (BytesOf s ⊎ NewBytesOf s)
  accepted = (bytes-by (is_new s) refl, ⊎_elim from_old from-new)
