-- The buffer is long enough, and its front is the default sheet.
use Rattle.std.proofs.Common.{◌≡◌, refl, sym, ◌∙◌, subst, List, ◌++◌, ℕ, ◌≤◌, length, take, drop, length-append, arith, Result, Ok, Err}
use Rattle.std.proofs.Math.Seq.{take_at, length-take-le}
use Rattle.std.specs.Prelude.{IfOk}
use Rattle.std.specs.Result.{result_unwrap_or}
use Rattle.refusal.specs.Refusal.{number_of}
use Rattle.refusal.specs.declared.Refusal.{Refusal}
use Rattle.figures.specs.Default.{default_sheet}
use Rattle.figures.specs.declared.Calibration.{Calibration}
use Rattle.figures.proofs.Default.{default-representable, default-acceptable}
use Rattle.sheet.specs.Places.{sheet_length}
use Rattle.sheet.specs.Write.{sheet_bytes}
use Rattle.sheet.proofs.Accepted.{acceptable-figures, acceptable-fits}
use Rattle.refusal.proofs.Numbers.{number_above}
use Rattle.sheet.proofs.Theorems.{written-length}
use Rattle.sheet_writer.specs.Write.{write_number, written_of, out_after}
use Rattle.converter.specs.Making.{outcome_of}
use Rattle.converter.specs.Reached.{Making}
use Rattle.tour.proofs.make_device.Goals as goal

length-is : sheet_length default_sheet ≡ 173
unfolding default_sheet
length-is = refl

bytes-are : length (sheet_bytes default_sheet) ≡ 173
bytes-are = written-length default_sheet default-representable (acceptable-fits default_sheet default-representable default-acceptable) ∙ length-is

-- the front of the buffer that was written
record Front (n : ℕ) (after : List ℕ) : Type 0 where
  pub fits : n ≤ length after
  pub is : take n after ≡ sheet_bytes default_sheet

accepted : (out : List ℕ) → length out ≡ 325 → write_number default_sheet out ≡ 0
unfolding write_number
accepted out h = simp (acceptable-figures default_sheet default-representable default-acceptable, h, length-is)

taken : (w : Result ℕ Refusal) {l : ℕ} → number_of w ≡ 0 → IfOk w (λ v. v ≡ l) → result_unwrap_or w 0 ≡ l
taken (Ok v) n h = h
taken (Err e) n h = absurd (omega (arith, number_above e, n))

front : {f : Calibration} (out after : List ℕ) (w : Result ℕ Refusal) {n : ℕ} → length out ≡ 325 → f ≡ default_sheet → number_of w ≡ (written_of f out).number
    → IfOk w (λ v. v ≡ (written_of f out).length) → after ≡ out_after f out → n ≡ result_unwrap_or w 0 → Front n after
unfolding written_of out_after
front out after w {n} h d e l a u =
    let k : n ≡ 173 = u ∙ taken w (e ∙ simp (d, accepted out h)) l ∙ simp (d, accepted out h, length-is) in
    let b : after ≡ sheet_bytes default_sheet ++ drop 173 out = a ∙ simp (d, accepted out h, length-is) in
    record { fits = rw (k, b, length-append, bytes-are) (omega arith); is = rw (k, b) (take_at (sheet_bytes default_sheet) (drop 173 out) 173 bytes-are) }

pub slice_bounds-buffer-end : goal.slice_bounds-buffer-end
slice_bounds-buffer-end g c =
    let w = c.write-written.ensures in
    let f : Front c.unwrap_or-length.result c.write-written.new.out = front _ _ c.write-written.result refl c.new.ensures w.number w.length w.out c.unwrap_or-length.ensures in
    f.fits

pub slice_bounds-device_of-end : goal.slice_bounds-device_of-end
slice_bounds-device_of-end g c =
    let w = c.write-written.ensures in
    let f : Front c.unwrap_or-length.result c.write-written.new.out = front _ _ c.write-written.result refl c.new.ensures w.number w.length w.out c.unwrap_or-length.ensures in
    sym (length-take-le _ _ f.fits)

pub returns : goal.returns
returns g c =
    let w = c.write-written.ensures in
    let f : Front c.unwrap_or-length.result c.write-written.new.out = front _ _ c.write-written.result refl c.new.ensures w.number w.length w.out c.unwrap_or-length.ensures in
    subst (λ (s : List ℕ). Making s 52 (outcome_of c.device_of.result)) f.is c.device_of.ensures
