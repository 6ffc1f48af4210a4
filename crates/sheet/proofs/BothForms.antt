-- The forms are told apart, judged and read as specs/BothForms.antt says. Assumes nothing.
use Rattle.std.proofs.Common.{◌≡◌, ℕ, suc, ◌<◌, ◌≤◌, Bool, true, false, cond, List, [], ◌∷◌, length, drop, ℤ, pos, ◌≤ℤ◌, refl, ◌∙◌, arith, lt-ltb, ne_eqb}
use lib.Signed.{lt_z}
use Rattle.integers.proofs.Order.{lt_no}
use Rattle.sheet.specs.Bytes.{figure_at}
use Rattle.sheet.specs.Places.{identity_size}
use Rattle.sheet.specs.Judge.{◌then◌, short_of, out_of_range, cell_number, sections_number}
use Rattle.sheet.specs.Read.{cell_at, temperature_at, linearity_at, system_at, filter_at, figures_of, old_number, no_figures}
use Rattle.sheet.specs.Forms.{serial_most, day_most, identity_at, identity_number, own_identity_number, new_number, sheet_number, read_sheet, contents_of}
use Rattle.sheet.specs.BothForms.{Serial, Day, serial_of, day_of, BothForms}
use Rattle.sheet.proofs.EightBytes.{there-is}
use Rattle.sheet.proofs.Chain.{then-none, both}
use Rattle.sheet.proofs.Numbers.{in-short, in_count, count-wrong, in-beyond}
use Rattle.sheet.proofs.EitherForm.{in-given, none-section, reads_old, reads-new, section-none}
use Rattle.sheet.proofs.Theorems.{refused-zeros}

-- ---- the numbers 1 and 3

short-at : {room end : ℕ} → room < end → short_of room end ≡ 1
unfolding short_of
short-at h = simp (lt-ltb _ _ h)

beyond-by : {least most v : ℤ} (t u : Bool) → lt_z v least ≡ t → lt_z most v ≡ u → (least ≤ℤ v → v ≤ℤ most → ⊥) → cond {A = ℕ} t 3 (cond u 3 0) ≡ 3
beyond-by true u e f h = refl
beyond-by false true e f h = refl
beyond-by false false e f h = absurd (h (lt_no e) (lt_no f))

pub beyond-at : {least most v : ℤ} → (least ≤ℤ v → v ≤ℤ most → ⊥) → out_of_range least most v ≡ 3
unfolding out_of_range
beyond-at {least} {most} {v} h = beyond-by (lt_z v least) (lt_z most v) refl refl h

-- ---- a sheet that begins with 2

module _ (rest : List ℕ) where
  abbrev s : List ℕ
  s = 2 ∷ rest

  serial-at : 8 ≤ length rest → figure_at s 1 ≡ serial_of rest
  serial-at h = there-is s 1 (omega arith)

  day-at : 16 ≤ length rest → figure_at s 9 ≡ day_of rest
  day-at h = there-is s 9 (omega arith)

  -- after the count, which is there and right: serial, day, and the old sheet
  number_is : sheet_number s ≡ ((short_of (length s) 9 then out_of_range (pos 0) (pos serial_most) (figure_at s 1)) then (short_of (length s) 17 then out_of_range (pos 0) (pos day_most) (figure_at s 9))) then old_number (drop identity_size s)
  unfolding sheet_number new_number own_identity_number identity_number identity_at
  number_is = rw (in-short {room = length s} {end = 1} (omega arith), in_count {least = 2} {most = 2} {n = 2} (omega arith) (omega arith))

  no_serial : length rest < 8 → sheet_number s ≡ 1
  no_serial h = number_is ∙ rw (short-at {room = length s} {end = 9} (omega arith))

  bad_serial : 8 ≤ length rest → (Serial (serial_of rest) → ⊥) → sheet_number s ≡ 3
  bad_serial l h = number_is ∙ rw (in-short {room = length s} {end = 9} (omega arith), serial-at l, beyond-at {v = serial_of rest} (λ a b. h (record { least = a; most = b })))

  good-serial : 8 ≤ length rest → Serial (serial_of rest) → short_of (length s) 9 then out_of_range (pos 0) (pos serial_most) (figure_at s 1) ≡ 0
  good-serial l k = both (in-short (omega arith)) (rw (serial-at l) (in-beyond k.least k.most))

  no_day : 8 ≤ length rest → Serial (serial_of rest) → length rest < 16 → sheet_number s ≡ 1
  no_day l k h = number_is ∙ rw (good-serial l k, short-at {room = length s} {end = 17} (omega arith))

  bad_day : Serial (serial_of rest) → 16 ≤ length rest → (Day (day_of rest) → ⊥) → sheet_number s ≡ 3
  bad_day k l h =
      number_is ∙ rw (good-serial (omega arith) k, in-short {room = length s} {end = 17} (omega arith), day-at l, beyond-at {v = day_of rest} (λ a b. h (record { least = a; most = b })))

  identity-at : 16 ≤ length rest → identity_at s ≡ record { serial = serial_of rest; day = day_of rest }
  unfolding identity_at
  identity-at l = rw (serial-at (omega arith), day-at l)

  section : Serial (serial_of rest) → Day (day_of rest) → 16 ≤ length rest → own_identity_number s ≡ 0
  section k d l =
      let i = identity-at l in
      none-section s (record { count-is = refl; given = rw i (in-given _ (record { serial = k; day = d })); long = omega arith })

  long_enough : sheet_number s ≡ 0 → 16 ≤ length rest
  unfolding sheet_number new_number
  long_enough e = let k = (section-none s (then-none {a = own_identity_number s} e).0).long in omega (arith, k)

-- ---- another first count

pub old-other : (count : ℕ) (rest : List ℕ) → (count ≡ 4 → ⊥) → old_number (count ∷ rest) ≡ 2
unfolding old_number sections_number cell_number
old-other count rest k = rw (in-short {room = suc (length rest)} {end = 1} (omega arith), count-wrong {n = 4} k)

pub old-empty : old_number [] ≡ 1
unfolding old_number sections_number cell_number short_of
old-empty = refl

other-count : (count : ℕ) (rest : List ℕ) → (count ≡ 2 → ⊥) → (count ≡ 4 → ⊥) → sheet_number (count ∷ rest) ≡ 2
unfolding sheet_number
other-count count rest h k = rw (ne_eqb count 2 h) (old-other count rest k)

old-first : (rest : List ℕ) → sheet_number (4 ∷ rest) ≡ old_number (4 ∷ rest)
unfolding sheet_number
old-first rest = refl

empty : sheet_number [] ≡ 1
unfolding sheet_number
empty = old-empty

zeros : no_figures ≡ figures_of []
unfolding no_figures figures_of cell_at temperature_at linearity_at system_at filter_at figure_at
zeros = refl

pub both-forms : BothForms
unfolding contents_of read_sheet
both-forms = record {
  old = old-first;
  old_read = λ rest. reads_old (4 ∷ rest) refl;
  nothing = empty;
  other = other-count;
  no_serial = no_serial;
  bad_serial = bad_serial;
  no_day = no_day;
  bad_day = bad_day;
  behind = λ rest k d l. reads-new (2 ∷ rest) refl (section rest k d l);
  reads_number = λ s. refl;
  told = λ s. refl;
  told_figures = λ s. refl;
  told_old = λ rest e. (rw e, rw e);
  told_new = λ rest e. (rw e, rw e (identity-at rest (long_enough rest e)));
  refused_figures = λ s h. refused-zeros s h;
  figures_of_none = zeros;
  refused_form = λ s h. rw (ne_eqb (sheet_number s) 0 h);
  refused_identity = λ s h. rw (ne_eqb (sheet_number s) 0 h);
}
