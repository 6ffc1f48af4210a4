-- A table's column stands at its registers. Assumes nothing.
use mathlib.Core.Path.{◌≡◌}
use Prim.Native.Nat.{ℕ, ◌+◌, ◌-◌, ◌≤◌}
use native.Mathlib.Omega.{arith}
use lib.ListN.{get_or}
use borrow.Author.Tests.{ne_eqb}
use Rattle.figures.specs.Unused.{no_linearity, no_temperature}
use Rattle.figures.specs.declared.Temperature.{Temperature}
use Rattle.figures.specs.declared.Linearity.{Linearity}
use Rattle.register.specs.Number.{CLN, CLX, CLK, CTN, CT, CTG, CTO}
use Rattle.panel.specs.Figure.{linearity_figure, temperature_figure}
use Rattle.panel.proofs.Among.{inside, above}

module _ (l : Linearity) (n : ℕ) where
  pub clx-at : CLX ≤ n → n ≤ CLX + 6 → (get_or l.points (n - CLX) no_linearity).clx ≡ linearity_figure l n
  unfolding linearity_figure
  clx-at h k = simp (ne_eqb n CLN (λ e. omega (arith, e)), inside CLX (CLX + 6) n h k)

  pub clk-at : CLK ≤ n → n ≤ CLK + 6 → (get_or l.points (n - CLK) no_linearity).clk ≡ linearity_figure l n
  unfolding linearity_figure
  clk-at h k = simp (ne_eqb n CLN (λ e. omega (arith, e)), above CLX (CLX + 6) n (omega arith), inside CLK (CLK + 6) n h k)

module _ (t : Temperature) (n : ℕ) where
  pub ct-at : CT ≤ n → n ≤ CT + 4 → (get_or t.points (n - CT) no_temperature).ct ≡ temperature_figure t n
  unfolding temperature_figure
  ct-at h k = simp (ne_eqb n CTN (λ e. omega (arith, e)), inside CT (CT + 4) n h k)

  pub ctg-at : CTG ≤ n → n ≤ CTG + 4 → (get_or t.points (n - CTG) no_temperature).ctg ≡ temperature_figure t n
  unfolding temperature_figure
  ctg-at h k = simp (ne_eqb n CTN (λ e. omega (arith, e)), above CT (CT + 4) n (omega arith), inside CTG (CTG + 4) n h k)

  pub cto-at : CTO ≤ n → n ≤ CTO + 4 → (get_or t.points (n - CTO) no_temperature).cto ≡ temperature_figure t n
  unfolding temperature_figure
  cto-at h k = simp (ne_eqb n CTN (λ e. omega (arith, e)), above CT (CT + 4) n (omega arith), above CTG (CTG + 4) n (omega arith), inside CTO (CTO + 4) n h k)
