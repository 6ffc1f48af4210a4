-- Change 2, what the customers asked for: `jumps`, over any history. Assumes nothing.
use mathlib.Core.Path.{refl}
use mathlib.Core.List.{List}
use mathlib.Core.Logic.{⊎_elim}
use mathlib.Core.Option.{some}
use Rattle.converter.specs.Log.{Kept, Entry}
use Rattle.converter.specs.Jumps.{Neighbours, EachFiltered, Slow, Smoothed, Jumps, JumpsBetween}
use Rattle.converter.proofs.History.{tracks}

of-each : (es : List Entry) → EachFiltered es → Jumps es
of-each es h = record {
  each_filtered = h;
  slow_filling = λ slow j k n. smoothed j k n (slow j k n);
  smoothed = smoothed;
  bypassed = λ j k n. ⊎_elim (h (some j) k n).far_above (h (some j) k n).far_below;
}
  where
    smoothed : (j k : Kept) → Neighbours es (some j) k → Slow j k → Smoothed j k
    smoothed j k n s = (h (some j) k n).near refl s.level_on s.steps_on s.is_not_above s.is_not_below

pub jumps : JumpsBetween
jumps sheet station h calls = of-each _ (tracks sheet station h calls).tells.each_filtered
