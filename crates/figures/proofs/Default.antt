-- The default figures keep every limit: each field is a comparison of two numbers. Assumes nothing.
use mathlib.Core.Path.{refl}
use native.Mathlib.Omega.{arith}
use Rattle.figures.specs.Default.{default_sheet}
use Rattle.figures.specs.Acceptable.{Acceptable}
use Rattle.figures.specs.Rows.{linearities, temperatures}
use Rattle.figures.specs.Representable.{Representable}

pub default-representable : Representable default_sheet
unfolding default_sheet
default-representable = record { five = refl; seven = refl }

pub default-acceptable : Acceptable default_sheet
unfolding default_sheet temperatures linearities
default-acceptable = record {
  cell_ok = record { cofs_in = record { abs = omega arith }; cgai_in = record { abs = omega arith }; cmin_in = record { abs = omega arith }; cmax_in = record { abs = omega arith }; ordered = record { lt = tt } };
  temperature_ok = record {
    least = omega arith;
    most = omega arith;
    ct_in = (record { abs = omega arith }, (record { abs = omega arith }, tt));
    cto_in = (record { abs = omega arith }, (record { abs = omega arith }, tt));
    ctg_in = (record { abs = omega arith }, (record { abs = omega arith }, tt));
    rising = (record { lt = tt }, tt);
  };
  linearity_ok = record {
    least = omega arith;
    most = omega arith;
    clx_in = (record { abs = omega arith }, (record { abs = omega arith }, tt));
    clk_in = (record { abs = omega arith }, (record { abs = omega arith }, tt));
    rising = (record { lt = tt }, tt);
    gentle = (omega arith, tt);
  };
  system_ok = record { sofs_in = record { abs = omega arith }; sgai_in = record { abs = omega arith }; smin_in = record { abs = omega arith }; smax_in = record { abs = omega arith }; ordered = record { lt = tt }; sz_in = record { abs = omega arith } };
  filter_ok = record { fflv_at_least = record { le = tt }; fflv_at_most = record { le = tt }; ffst_at_least = record { le = tt }; ffst_at_most = record { le = tt } };
}
