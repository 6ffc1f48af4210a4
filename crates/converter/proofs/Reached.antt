-- A device that our calls gave: one call more, what it keeps, and its log. Assumes nothing.
use mathlib.Core.Path.{◌≡◌, refl, sym, ap, ◌∙◌, subst}
use mathlib.Core.List.{List, [], ◌∷◌, ◌++◌}
use Prim.Native.Nat.{ℕ}
use Rattle.converter.specs.declared.Device.{Device}
use Rattle.converter.specs.Making.{made}
use Rattle.converter.specs.Call.{Call, after_call, run}
use Rattle.converter.specs.Reached.{Reached}
use Rattle.converter.specs.Log.{Log, note, noted, log_of}
use Rattle.converter.proofs.Sound.{Sound}
use Rattle.converter.proofs.History.{Tracks, tracks}

run_more : (d : Device) (cs : List Call) (c : Call) → run d (cs ++ (c ∷ [])) ≡ after_call (run d cs) c
run_more d [] c = refl
run_more d (x ∷ cs) c = run_more (after_call d x) cs c

pub reached-made : (sheet : List ℕ) (station : ℕ) → (made sheet station).number ≡ 0 → Reached (made sheet station).device
reached-made sheet station h = record { sheet = sheet; station = station; accepted = h; calls = []; is = refl }

-- every call on a reached device gives a reached device
pub reached-step : {d : Device} → Reached d → (c : Call) → Reached (after_call d c)
reached-step r c = record {
  sheet = r.sheet;
  station = r.station;
  accepted = r.accepted;
  calls = r.calls ++ (c ∷ []);
  is = ap (λ (d : Device). after_call d c) r.is ∙ sym (run_more _ r.calls c);
}

pub reached-run : {d : Device} → Reached d → (calls : List Call) → Reached (run d calls)
reached-run h [] = h
reached-run {d = d} h (c ∷ calls) = reached-run {d = after_call d c} (reached-step h c) calls

abbrev pub log-of : {d : Device} → Reached d → Log
log-of r = log_of r.sheet r.station r.calls

noted_more : (l : Log) (cs : List Call) (c : Call) → noted l (cs ++ (c ∷ [])) ≡ note (noted l cs) c
noted_more l [] c = refl
noted_more l (x ∷ cs) c = noted_more (note l x) cs c

pub step-log : {d : Device} (r : Reached d) (c : Call) → log-of (reached-step r c) ≡ note (log-of r) c
unfolding reached-step
step-log r c = noted_more _ r.calls c

pub reached-tracks : {d : Device} (r : Reached d) → Tracks d (log-of r)
reached-tracks r = subst (λ (x : Device). Tracks x (log-of r)) (sym r.is) (tracks r.sheet r.station r.accepted r.calls)

pub reached-sound : {d : Device} → Reached d → Sound d
reached-sound r = (reached-tracks r).sound
