-- Change 1's sentences hold of `setup_by`. Assumes nothing.
use mathlib.Core.Path.{◌≡◌, refl, sym, ap, ◌∙◌, subst}
use mathlib.Core.Bool.{Bool, true, false, ◌||◌, true≢false, false≢true}
use mathlib.Core.List.{List, [], ◌∷◌, map}
use mathlib.Core.Logic.{◌↔◌}
use Prim.Native.Nat.{ℕ}
use borrow.Author.Tests.{eqb-true, eq-eqb, ne_eqb}
use lib.Dec.{eqb}
use lib.Ieee.{Float}
use Rattle.integers.proofs.Order.{pick}
use Rattle.figures.specs.Acceptable.{Acceptable}
use Rattle.figures.specs.Representable.{Representable}
use Rattle.figures.specs.Unused.{unused_zero}
use Rattle.figures.specs.declared.Calibration.{Calibration}
use Rattle.sheet.proofs.Theorems.{judged-acceptable}
use Rattle.binary32.specs.Received.{counted}
use Rattle.binary32.specs.Sent.{count_float}
use Rattle.register.specs.Listed.{is_in}
use Rattle.register.specs.Number.{SZ, APPLY, RST}
use Rattle.register.specs.Register.{access_of, range_of}
use Rattle.modbus.specs.Judgement.{Frame, Refused, Read, Write, Act}
use Rattle.panel.specs.Figure.{system_figure, figure_at, is_figure, figure_float, written}
use Rattle.panel.specs.Placed.{numbers}
use Rattle.panel.proofs.Placed.{placed}
use Rattle.in_force.specs.declared.Setup.{Setup}
use Rattle.in_force.specs.InForce.{with_figures, with_copy, offered, copy_fits, applied, setup_written, setup_acted, setup_by}
use Rattle.in_force.specs.Waiting.{Copied, Zeroed, Offered, PutInForce, SetBack, in_parts, in_whole, in_steps, Scaled, Waiting}
use Rattle.in_force.proofs.Trimmed.{trimmed, trimmed-representable, trimmed-same}

neither : (a b : Bool) → a || b ≡ false → (a ≡ false) × (b ≡ false)
neither true b e = absurd (true≢false e)
neither false b e = (refl, e)

module _ (s : Setup) where
  abbrev next : Calibration
  next = offered s.figures.system.sz s.copy

  -- ---- writes

  copied : Representable s.copy → (n : ℕ) (x : Float) → is_in numbers n ≡ true → Copied s (setup_by s (Write n x)) n (counted (range_of n) x)
  unfolding is_figure setup_by setup_written
  copied r n x e =
      let f : is_figure n ≡ true = placed.these n ∙ e in
      let no : eqb n SZ ≡ false = ne_eqb n SZ (λ k. true≢false (sym f ∙ ap is_figure k)) in
      let is : setup_by s (Write n x) ≡ with_copy s (written s.copy n x) = rw (no, f) in
      subst (λ (t : Setup). Copied s t n (counted (range_of n) x)) (sym is)
      (record { shows = placed.written_read s.copy r n x f; others = placed.others_kept s.copy r n x; in_force = refl })

  zeroed : (x : Float) → Zeroed s (setup_by s (Write 22 x)) (counted (range_of 22) x)
  unfolding system_figure figure_at setup_by setup_written
  zeroed x = record { sz = refl; others = λ m. refl; copy = refl }

  unwritten : (n : ℕ) (x : Float) → is_in (22 ∷ numbers) n ≡ false → setup_by s (Write n x) ≡ s
  unfolding setup_by setup_written
  unwritten n x e = let h = neither (eqb n SZ) (is_in numbers n) e in rw (h.0, placed.these n, h.1)

  -- ---- 99

  offers : Representable s.copy → Offered s next
  offers r = record { representable = trimmed-representable s.copy _ r; trimmed = trimmed s.copy _; sz = refl }

  fit : Representable s.copy → (c : Calibration) → Offered s c → (copy_fits s ≡ true) ↔ Acceptable c
  unfolding copy_fits
  fit r c o =
      let n = offers r in
      let same : c ≡ next = trimmed-same s.copy c next o.representable n.representable o.trimmed n.trimmed o.sz in
      let judged = judged-acceptable next n.representable in
      (λ e. subst Acceptable (sym same) (judged.0 (eqb-true _ 0 e)), λ a. eq-eqb _ 0 (judged.1 (subst Acceptable same a)))

  put-in-force : Representable s.copy → copy_fits s ≡ true → PutInForce s (setup_by s (Act 99))
  unfolding applied setup_by setup_acted
  put-in-force r e =
      let is : setup_by s (Act 99) ≡ with_figures s next = rw e in
      subst (PutInForce s) (sym is) (record { figures = offers r; copy = refl })

  unfit : copy_fits s ≡ false → setup_by s (Act 99) ≡ s
  unfolding applied setup_by setup_acted
  unfit e = rw e

  -- ---- all other frames

  set_back : SetBack s (setup_by s (Act 100))
  unfolding unused_zero setup_by setup_acted
  set_back = record { copy = trimmed s.figures s.figures.system.sz; in_force = refl }

  unacted : (n : ℕ) → is_in (99 ∷ 100 ∷ []) n ≡ false → setup_by s (Act n) ≡ s
  unfolding setup_by setup_acted
  unacted n e =
      let h = neither (eqb n APPLY) (is_in (100 ∷ []) n) e in
      rw (h.0, (neither (eqb n RST) (is_in [] n) h.1).0)

  read : (n : ℕ) → setup_by s (Read n) ≡ s
  unfolding setup_by
  read n = refl

  refused : (n : ℕ) → setup_by s (Refused n) ≡ s
  unfolding setup_by
  refused n = refl

  abbrev Here : Setup → Type 0
  Here t = t.station ≡ s.station

  station : (f : Frame) → Here (setup_by s f)
  unfolding setup_by setup_written setup_acted applied
  station (Refused n) = refl
  station (Read n) = refl
  station (Write n x) = pick (eqb n SZ) _ _ Here (λ e. refl) (λ e. pick (is_figure n) (with_copy s (written s.copy n x)) s Here (λ g. refl) (λ g. refl))
  station (Act n) =
      pick (eqb n APPLY) (applied s) _ Here (λ e. pick (copy_fits s) (with_figures s next) s Here (λ g. refl) (λ g. refl))
      (λ e. pick (eqb n RST) (with_copy s (unused_zero s.figures)) s Here (λ g. refl) (λ g. refl))

-- ---- how the copy reads

-- registers of one shift
shift_of : (k : ℕ) (ns : List ℕ) → map (λ n. (range_of n).shift) ns ≡ map (λ n. k) ns → (n : ℕ) → is_in ns n ≡ true → (range_of n).shift ≡ k
shift_of k [] e n h = absurd (false≢true h)
shift_of k (m ∷ ns) e n h = by (eqb n m) refl h (shift_of k ns (cc) n)
  where
    by : (b : Bool) → eqb n m ≡ b → b || is_in ns n ≡ true → (is_in ns n ≡ true → (range_of n).shift ≡ k) → (range_of n).shift ≡ k
    by true g h rest = let first : (range_of m).shift ≡ k = cc in rw (eqb-true n m g) first
    by false g h rest = rest h

module _ (c : Calibration) where
  float-of : (k : ℕ) (ns : List ℕ) → map (λ n. (range_of n).shift) ns ≡ map (λ n. k) ns → (n : ℕ) → is_in ns n ≡ true → figure_float c n ≡ count_float k (figure_at c n)
  unfolding figure_float
  float-of k ns e n h = ap (λ (i : ℕ). count_float i (figure_at c n)) (shift_of k ns e n h)

  scaled : Scaled c
  unfolding range_of access_of
  scaled = record { parts = float-of 28 in_parts refl; whole = float-of 0 in_whole refl; steps = float-of 16 in_steps refl }

pub waiting : Waiting
waiting = record {
  written = copied;
  zeroed = zeroed;
  unwritten = unwritten;
  offers = offers;
  fit = fit;
  applied = put-in-force;
  unfit = unfit;
  set_back = set_back;
  unacted = unacted;
  read = read;
  refused = refused;
  station = station;
  scaled = λ s. scaled s.copy;
}
