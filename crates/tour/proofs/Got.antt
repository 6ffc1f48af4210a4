-- Where the steps of a cursor lead, past the end of its sheet too. Assumes nothing.
use mathlib.Core.Path.{◌≡◌, refl, sym, ap, ◌∙◌}
use mathlib.Core.List.{List}
use Prim.Native.Nat.{ℕ, ◌+◌, ◌<◌, ◌≤◌}
use native.Mathlib.Omega.{arith}
use borrow.Author.Tests.{ltb-true, ltb-false, le-ltb, lt-ltb, lt-leb}
use lib.Dec.{ltb}
use lib.IntN.{ℤ, pos}
use lib.ListN.{length, get_or-eq_default}
use denote.Ref.{Bor}
use Rattle.integers.proofs.Order.{pick}
use Rattle.sheet.specs.Bytes.{count_at, figure_at}
use Rattle.sheet.specs.Judge.{short_of}
use Rattle.sheet.specs.Read.{cell_at}
use Rattle.std.specs.Prelude.{Result, Ok, Err, IfOk}
use Rattle.std.specs.Result.{result_and, result_unwrap_or}
use Rattle.refusal.specs.Refusal.{number_of}
use Rattle.refusal.specs.declared.Refusal.{Refusal}
use Rattle.sheet.specs.Step.{CountFound, FigureFound, CountStep, FigureStep, count_found, figure_found, started, count_step, figure_step, Goes}
use Rattle.refusal.proofs.Numbers.{number_above}
use Rattle.sheet.proofs.Steps.{count-goes, figure-goes}
use Rattle.sheet.specs.declared.Cursor.{Cursor}
use Rattle.tour.specs.Contents.{CellSection, cell_section}

-- It has got to e, if a figure stands there; and where none does, none stands where it has got.
record Got (s : List ℕ) (e p : ℕ) : Type 0 where
  there : e + 8 ≤ length s → p ≡ e
  short : length s < e + 8 → length s < p + 8

cases : {P : Type 0} (a b : ℕ) → (a < b → P) → (b ≤ a → P) → P
cases {P} a b f g = pick {X = ℕ} (ltb a b) 0 0 (λ _. P) (λ h. f (ltb-true a b h)) (λ h. g (ltb-false a b h))

module _ (s : List ℕ) where
  empty : length s ≤ 0 → count_found s 0 ≡ record { number = 1; value = 0; at = 0 }
  unfolding count_found
  empty h = simp (le-ltb _ _ h)

  begun : 0 < length s → count_found s 0 ≡ record { number = 0; value = count_at s 0; at = 1 }
  unfolding count_found
  begun h = simp (lt-ltb _ _ h)

  count_got : Got s 1 (count_found s 0).at
  count_got = record {
    there = λ h. ap (λ (f : CountFound). f.at) (begun (omega (arith, h)));
    short = λ h. cases 0 (length s)
        (λ k. omega (arith, h, ap (λ (f : CountFound). f.at) (begun k)))
        (λ k. omega (arith, k, ap (λ (f : CountFound). f.at) (empty k)));
  }

  count-value : (count_found s 0).value ≡ count_at s 0
  count-value = cases 0 (length s)
      (λ k. ap (λ (f : CountFound). f.value) (begun k))
      (λ k. ap (λ (f : CountFound). f.value) (empty k) ∙ sym (get_or-eq_default s 0 {n = 0} k))

  short : (p : ℕ) → length s < p + 8 → figure_found s p ≡ record { number = 1; value = pos 0; at = p }
  unfolding figure_found
  short p h = simp (lt-ltb _ _ h)

  there : (p : ℕ) → p + 8 ≤ length s → figure_found s p ≡ record { number = 0; value = figure_at s p; at = p + 8 }
  unfolding figure_found
  there p h = simp (le-ltb _ _ h)

  none-at : (e : ℕ) → length s < e + 8 → figure_at s e ≡ pos 0
  unfolding figure_at
  none-at e k = simp (lt-leb _ _ k)

  module _ (e p : ℕ) (g : Got s e p) where
    -- where a figure stands at e, it is the one at p
    here : e + 8 ≤ length s → p + 8 ≤ length s
    here k = omega (arith, k, g.there k)

    figure_got : Got s (e + 8) (figure_found s p).at
    figure_got = record {
      there = λ h. let k : e + 8 ≤ length s = omega (arith, h) in omega (arith, g.there k, ap (λ (f : FigureFound). f.at) (there p (here k)));
      short = λ h. cases (length s) (e + 8)
          (λ k. omega (arith, g.short k, ap (λ (f : FigureFound). f.at) (short p (g.short k))))
          (λ k. omega (arith, h, g.there k, ap (λ (f : FigureFound). f.at) (there p (here k))));
    }

    figure-value : (figure_found s p).value ≡ figure_at s e
    figure-value = cases (length s) (e + 8)
        (λ k. ap (λ (f : FigureFound). f.value) (short p (g.short k)) ∙ sym (none-at e k))
        (λ k. ap (λ (f : FigureFound). f.value) (there p (here k)) ∙ ap (figure_at s) (g.there k))

    figure-number : (figure_found s p).number ≡ short_of (length s) (e + 8)
    unfolding short_of
    figure-number = pick (ltb (length s) (e + 8)) 1 0 (λ n. (figure_found s p).number ≡ n)
        (λ h. ap (λ (f : FigureFound). f.number) (short p (g.short (ltb-true _ _ h))))
        (λ h. ap (λ (f : FigureFound). f.number) (there p (here (ltb-false _ _ h))))

-- the steps of `cell_section`, and what it gives
module _ (s : Bor (List ℕ)) where
  abbrev pub counted : CountStep
  counted = count_step (started s)

  abbrev pub cofs : FigureStep
  cofs = figure_step counted.next

  abbrev pub cgai : FigureStep
  cgai = figure_step cofs.next

  abbrev pub cmin : FigureStep
  cmin = figure_step cgai.next

  abbrev pub cmax : FigureStep
  cmax = figure_step cmin.next

  abbrev pub section : CellSection
  section = record { number = cmax.number; count = counted.value; cell = record { cofs = cofs.value; cgai = cgai.value; cmin = cmin.value; cmax = cmax.value } }

  pub cell-found : section ≡ cell_section s.now
  unfolding cell_section cell_at
  cell-found =
      let c = s.now in let g1 = count_got c in let g9 = figure_got c 1 _ g1 in let g17 = figure_got c 9 _ g9 in let g25 = figure_got c 17 _ g17 in
      λ i. record {
        number = figure-number c 25 _ g25 i;
        count = count-value c i;
        cell = record {
          cofs = figure-value c 1 _ g1 i;
          cgai = figure-value c 9 _ g9 i;
          cmin = figure-value c 17 _ g17 i;
          cmax = figure-value c 25 _ g25 i;
        };
      }

-- ---- what a step answers: its value, or 0 where it is refused

module _ {A : Type 0} {width : ℕ} {read : List ℕ → A} {zero : A} {c : Cursor} {number : ℕ} {value : A} {next : Cursor} (g : Goes width read zero c number value next) where
  none : 0 < number → value ≡ zero
  none h = cases (length c.sheet.now) (c.at + width) (λ k. (g.short k).1.0) (λ k. absurd (omega (arith, (g.there k).0, h)))

  or_zero : (r : Result A Refusal) → number_of r ≡ number → IfOk r (λ v. v ≡ value) → result_unwrap_or r zero ≡ value
  or_zero (Ok v) n h = h
  or_zero (Err e) n h = sym (none (omega (arith, number_above e, n)))

pub count-read : (c : Cursor) (r : Result ℕ Refusal) → number_of r ≡ (count_step c).number → IfOk r (λ v. v ≡ (count_step c).value) → result_unwrap_or r 0 ≡ (count_step c).value
count-read c r = or_zero (count-goes c) r

pub figure-read : (c : Cursor) (r : Result ℤ Refusal) → number_of r ≡ (figure_step c).number → IfOk r (λ v. v ≡ (figure_step c).value) → result_unwrap_or r (pos 0) ≡ (figure_step c).value
figure-read c r = or_zero (figure-goes c) r

pub same_number : (r : Result ℤ Refusal) → number_of (result_and r (Ok (tt {0}))) ≡ number_of r
same_number (Ok v) = refl
same_number (Err e) = refl
