-- The two forms of a sheet: what an identity without fault is, and which old sheet is read. Assumes nothing.
use Rattle.std.proofs.Common.{◌≡◌, ℕ, ◌-◌, ◌<◌, ◌≤◌, Some, None, Ok, Err, Bool, true, false, cond, List, length, take, drop, pos, sym, refl, ap, ◌∙◌, subst, arith, length-drop, take_all, ne_eqb, eqb-true}
use Rattle.sheet.specs.Bytes.{count_at}
use Rattle.refusal.specs.Refusal.{number}
use Rattle.refusal.specs.declared.Refusal.{Refusal}
use Rattle.figures.specs.declared.Calibration.{Calibration}
use Rattle.sheet.specs.Places.{identity_size}
use Rattle.sheet.specs.Judge.{short_of, out_of_range, wrong_count, count_number, range_number}
use Rattle.sheet.specs.Read.{old_number, no_figures, read_old}
use Rattle.sheet.specs.Forms.{serial_most, day_most, identity_at, identity_number, given_number, own_identity_number, is_new, new_number, sheet_number, old_of, read_sheet, no_identity, contents_of, told}
use Rattle.sheet.specs.BothForms.{InRange}
use Rattle.sheet.specs.declared.Identity.{Identity}
use Rattle.sheet.specs.Sheet.{Sheet}
use Rattle.sheet.proofs.Chain.{then-none, then-stop, both}
use Rattle.refusal.proofs.Numbers.{number_above}
use Rattle.sheet.proofs.Judged.{faultless}
use Rattle.sheet.proofs.Numbers.{short-in, in-short, count-in, in_count, beyond-in, in-beyond}

-- ---- an identity within its ranges

-- its section, where all of it is there
pub whole-identity : (short : ℕ → ℕ) (i : Identity) → short 1 ≡ 0 → short 9 ≡ 0 → short 17 ≡ 0 → identity_number short 2 i ≡ given_number i
unfolding identity_number
whole-identity short i a b c = rw (a, b, c)

pub given-in : (i : Identity) → given_number i ≡ 0 → InRange i
unfolding identity_number
given-in i h =
    let c = then-none {a = wrong_count 2 2 2} h in
    let e = then-none {a = out_of_range (pos 0) (pos serial_most) i.serial} c.1 in
    let s = beyond-in (pos 0) (pos serial_most) i.serial e.0 in
    let d = beyond-in (pos 0) (pos day_most) i.day e.1 in
    record { serial = record { least = s.0; most = s.1 }; day = record { least = d.0; most = d.1 } }

pub in-given : (i : Identity) → InRange i → given_number i ≡ 0
unfolding identity_number
in-given i r = both (in_count (omega arith) (omega arith)) (both (in-beyond r.serial.least r.serial.most) (in-beyond r.day.least r.day.most))

-- ---- a section without fault

pub record Section (s : List ℕ) : Type 0 where
  pub count-is : count_at s 0 ≡ 2
  pub given : given_number (identity_at s) ≡ 0
  pub long : identity_size ≤ length s

pub section-none : (s : List ℕ) → own_identity_number s ≡ 0 → Section s
unfolding own_identity_number identity_number
section-none s h =
    let short = short_of (length s) in
    let i = identity_at s in
    let c = then-none {a = count_number short 0 2 2 (count_at s 0)} h in
    let k = count-in 2 2 (count_at s 0) (then-none {a = short 1} c.0).1 in
    let e = then-none {a = range_number short 1 (pos 0) (pos serial_most) i.serial} c.1 in
    let f = then-none {a = short 9} e.0 in
    let g = then-none {a = short 17} e.1 in
    record { count-is = omega (arith, k); given = both (in_count (omega arith) (omega arith)) (both f.1 g.1); long = short-in (length s) 17 g.0 }

pub none-section : (s : List ℕ) → Section s → own_identity_number s ≡ 0
unfolding own_identity_number
none-section s k = rw k.count-is (whole-identity (short_of (length s)) (identity_at s) (in-short (omega (arith, k.long))) (in-short (omega (arith, k.long))) (in-short k.long) ∙ k.given)

-- ---- what stands from a place on, as a part of the slice

pub rest : (s : List ℕ) (n : ℕ) → take (length s - n) (drop n s) ≡ drop n s
rest s n = take_all (length s - n) (drop n s) (simp length-drop (omega arith))

-- ---- reading

pub reads_old : (s : List ℕ) → is_new s ≡ false → read_sheet s ≡ read_old s
unfolding read_sheet sheet_number old_of read_old
reads_old s e = rw e

pub reads-new : (s : List ℕ) → is_new s ≡ true → own_identity_number s ≡ 0 → read_sheet s ≡ read_old (drop identity_size s)
unfolding read_sheet sheet_number new_number old_of read_old
reads-new s e z = rw (e, z)

pub reads_none : (s : List ℕ) → is_new s ≡ true → (own_identity_number s ≡ 0 → ⊥) → read_sheet s ≡ record { number = own_identity_number s; figures = no_figures }
unfolding read_sheet sheet_number new_number
reads_none s e h = rw (e, then-stop (own_identity_number s) (old_number (drop identity_size s)) h, ne_eqb (own_identity_number s) 0 h)

-- ---- by what stands in front of the old sheet, and where that starts

module _ (s : List ℕ) where
  abbrev pub front_of : Bool → ℕ
  front_of new = cond new (own_identity_number s) 0

  faulty : (new : Bool) → is_new s ≡ new → (front_of new ≡ 0 → ⊥) → record { number = front_of new; figures = no_figures } ≡ read_sheet s
  faulty true e h = sym (reads_none s e h)
  faulty false e h = absurd (h refl)

  pub front-faulty : {front : ℕ} → front ≡ front_of (is_new s) → 0 < front → front ≡ (read_sheet s).number
  front-faulty {front} e h =
      let all : record { number = front; figures = no_figures } ≡ read_sheet s = rw e (faulty (is_new s) refl (λ z. absurd (omega arith))) in
      ap (λ (r : Sheet). r.number) all

  clear : (new : Bool) → is_new s ≡ new → front_of new ≡ 0 → (cond new identity_size 0 ≤ length s) × (read_old (drop (cond new identity_size 0) s) ≡ read_sheet s)
  clear true e z = ((section-none s z).long, sym (reads-new s e z))
  clear false e z = (omega arith, sym (reads_old s e))

  pub front-clear : {start : ℕ} → 0 ≡ front_of (is_new s) → start ≡ cond (is_new s) identity_size 0 → (start ≤ length s) × (read_old (drop start s) ≡ read_sheet s)
  front-clear e f = rw f (clear (is_new s) refl (sym e))

  -- ---- and what is told of it

  pub tells : {r : Sheet} (new : Bool) → r ≡ read_sheet s → r.number ≡ 0 → is_new s ≡ new → record { number = 0; form = count_at s 0; identity = cond new (identity_at s) no_identity; figures = r.figures } ≡ contents_of s
  unfolding contents_of read_sheet
  tells {r} new e z k = let n : sheet_number s ≡ 0 = sym (ap (λ (x : Sheet). x.number) e) ∙ z in rw (e, n, k)

  -- as C is told it
  pub tells_none : (refusal : Refusal) → number refusal ≡ (read_sheet s).number → told (Err refusal) ≡ contents_of s
  unfolding contents_of read_sheet
  tells_none refusal e = let z : sheet_number s ≡ 0 → ⊥ = (λ k. absurd (omega (arith, number_above refusal))) in rw (e, ne_eqb (sheet_number s) 0 z)

  pub tells-new : {c : Calibration} {i : Identity} → 0 ≡ (read_sheet s).number → c ≡ (read_sheet s).figures → i ≡ identity_at s → is_new s ≡ true → told (Ok (Some i, c)) ≡ contents_of s
  unfolding contents_of read_sheet
  tells-new e f i k = let t : count_at s 0 ≡ 2 = eqb-true (count_at s 0) 2 k in rw (f, i, ← e, k, t)

  pub tells-old : {c : Calibration} → 0 ≡ (read_sheet s).number → c ≡ (read_sheet s).figures → is_new s ≡ false → told (Ok (None, c)) ≡ contents_of s
  unfolding contents_of read_sheet sheet_number
  tells-old e f k = let t : count_at s 0 ≡ 4 = (faultless s (subst (λ (b : Bool). cond b (new_number s) (old_number s) ≡ 0) k (sym e))).cell-count in rw (f, ← e, k, t)

pub ruleset told_contents = (tells_none, tells-new, tells-old)
