-- Two sets of figures, for a cell that is pushed and the same cell pulled (Change 5: "Test rigs load cells both ways"): COFS, CTO, SOFS and
-- SZ have the other sign, both ranges and the linearity table are mirrored, and all else is the same. Points past the counts may be any.
use Rattle.std.specs.Prelude.{◌≡◌, [], ◌∷◌, map, neg_ℤ}
use Rattle.arithmetic.specs.Table.{Point}
use Rattle.arithmetic.specs.Mirror.{mirrored}
use Rattle.figures.specs.Rows.{temperatures, linearities}
use Rattle.figures.specs.declared.Calibration.{Calibration}

-- a row of CT, CTO and CTG
abbrev pub cto_negated : Point → Point
cto_negated [] = []
cto_negated (ct ∷ []) = ct ∷ []
cto_negated (ct ∷ (cto ∷ rest)) = ct ∷ (neg_ℤ cto ∷ rest)

pub record Mirrors (c m : Calibration) : Type 0 where
  pub cofs : m.cell.cofs ≡ neg_ℤ c.cell.cofs
  pub cgai : m.cell.cgai ≡ c.cell.cgai
  pub cmin : m.cell.cmin ≡ neg_ℤ c.cell.cmax
  pub cmax : m.cell.cmax ≡ neg_ℤ c.cell.cmin
  pub ctn : m.temperature.ctn ≡ c.temperature.ctn
  pub temperature : temperatures m.temperature ≡ map cto_negated (temperatures c.temperature)
  pub cln : m.linearity.cln ≡ c.linearity.cln
  pub linearity : linearities m.linearity ≡ mirrored (linearities c.linearity)
  pub sofs : m.system.sofs ≡ neg_ℤ c.system.sofs
  pub sgai : m.system.sgai ≡ c.system.sgai
  pub smin : m.system.smin ≡ neg_ℤ c.system.smax
  pub smax : m.system.smax ≡ neg_ℤ c.system.smin
  pub sz : m.system.sz ≡ neg_ℤ c.system.sz
  pub filter : m.filter ≡ c.filter
