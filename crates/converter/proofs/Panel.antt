-- Calibration from the panel (Change 1), for a device as a whole: when a written figure counts, and that the distances hold whatever is
-- written, and when. Assumes nothing.
use mathlib.Core.Path.{◌≡◌, refl, sym, ap, ap₂, ◌∙◌, subst}
use mathlib.Core.Bool.{Bool, true, false, cond}
use mathlib.Core.List.{List}
use Prim.Native.Nat.{ℕ}
use lib.Ieee.{Float}
use lib.IntN.{ℤ}
use Rattle.figures.specs.Acceptable.{Acceptable}
use Rattle.figures.specs.Unused.{unused_zero}
use Rattle.figures.specs.declared.Calibration.{Calibration}
use Rattle.compensation.specs.Faithful.{Faithful}
use Rattle.compensation.proofs.Faithful.{faithful}
use Rattle.modbus.specs.Frame.{judged}
use Rattle.register.specs.Number.{APPLY, RST}
use Rattle.modbus.specs.Judgement.{Frame, Read, Write, Act}
use Rattle.panel.specs.Figure.{is_figure}
use Rattle.state.specs.Reading.{bad_reading, readings_after, state_after_reading, state_after_values}
use Rattle.state.specs.ForCode.{held_after}
use Rattle.in_force.specs.InForce.{with_figures, offered, copy_fits, setup_by}
use Rattle.state.specs.Request.{state_by}
use Rattle.in_force.specs.Waiting.{Trimmed, PutInForce, SetBack}
use Rattle.state.specs.declared.State.{State}
use Rattle.in_force.proofs.Trimmed.{trimmed}
use Rattle.in_force.proofs.Waiting.{waiting}
use Rattle.converter.specs.Making.{setup_of, made}
use Rattle.converter.specs.Call.{Call, reading, frame, obeyed, after_reading, after_call}
use Rattle.converter.specs.Reached.{Reached}
use Rattle.converter.specs.declared.Device.{Device}
use Rattle.converter.proofs.Sound.{good-elec, held-within}
use Rattle.converter.proofs.Made.{making-accepted}
use Rattle.converter.proofs.Reached.{reached-sound, reached-step}
use Rattle.converter.proofs.Corollaries.{copy-applied, copy-refused, figure-shown}

-- ---- the copy "starts as the figures in force with 0 in unused points"

pub copy-starts : (sheet : List ℕ) (station : ℕ) → (made sheet station).number ≡ 0 → Trimmed (made sheet station).device.setup.figures (made sheet station).device.setup.copy
unfolding unused_zero
copy-starts sheet station h =
    let s = setup_of sheet station in
    subst (λ (d : Device). Trimmed d.setup.figures d.setup.copy) (sym (making-accepted sheet station h).starts) (trimmed s.figures s.figures.system.sz)

-- ---- whatever is written, and when, the figures in force keep all limits

pub in-force-acceptable : {d : Device} → Reached d → Acceptable d.setup.figures
in-force-acceptable r = (reached-sound r).setup-ok.acceptable

-- so the next reading is within 42, 52 and 416 steps of exact compensation by these figures; `Right` of `specs/History.antt` has it of every
-- reading in a list of calls, by the figures that were in force at that reading
pub reading-faithful : {d : Device} → Reached d → (elec temp : ℤ) (integrity : ℕ) → bad_reading elec temp integrity ≡ false
    → let after = after_call d (reading elec temp integrity) in Faithful d.setup.figures after.state.readings.elec temp integrity after.state.readings.values
unfolding state_after_reading state_after_values readings_after
reading-faithful {d} r elec temp integrity g =
    let sound = reached-sound r in
    let figures = d.setup.figures in
    subst (λ (b : Bool). let after = cond b d (after_reading d elec temp integrity) in Faithful figures after.state.readings.elec temp integrity after.state.readings.values) (sym g)
    (faithful figures (held_after figures d.state.readings elec) temp integrity (in-force-acceptable r)
    (held-within figures d.state.readings elec (in-force-acceptable r) sound.state-ok.readings-ok.held_in (good-elec elec temp integrity g)))

-- ---- a frame, and the call after it

module _ (d : Device) (s : List ℕ) (room : ℕ) where
  abbrev asked : Frame
  asked = judged s room d.setup.station

  abbrev after : Device
  after = after_call d (frame s room)

  -- a read leaves the device
  pub read-leaves : (n : ℕ) → asked ≡ Read n → after ≡ d
  unfolding setup_by state_by
  read-leaves n e = ap (λ (f : Frame). obeyed d f) e

  -- a written figure waits: the next reading gives what it would have given
  pub figure-waits : Reached d → (n : ℕ) (x : Float) → is_figure n ≡ true → asked ≡ Write n x → (elec temp : ℤ) (integrity : ℕ)
      → (after_call after (reading elec temp integrity)).state ≡ (after_call d (reading elec temp integrity)).state
  figure-waits r n x f e elec temp integrity =
      let h = figure-shown d s room r n x f e in
      let by : Bool → Calibration → State → State = λ b c t. cond b t (state_after_reading c t elec temp integrity) in
      reads after ∙ ap₂ (by (bad_reading elec temp integrity)) h.2 h.3 ∙ sym (reads d)
    where
      reads : (g : Device) → (after_call g (reading elec temp integrity)).state ≡ cond (bad_reading elec temp integrity) g.state (state_after_reading g.setup.figures g.state elec temp integrity)
      reads g = within (bad_reading elec temp integrity)
        where
          within : (b : Bool) → (cond b g (after_reading g elec temp integrity)).state ≡ cond b g.state (state_after_reading g.setup.figures g.state elec temp integrity)
          within true = refl
          within false = refl

  -- 99 "puts the copy in force from the next reading", which is taken by the copy, from the held value and the extremes as they are
  pub copy-counts : asked ≡ Act APPLY → copy_fits d.setup ≡ true → (elec temp : ℤ) (integrity : ℕ) → bad_reading elec temp integrity ≡ false
      → after_call after (reading elec temp integrity) ≡ after_reading (record { setup = with_figures d.setup (offered d.setup.figures.system.sz d.setup.copy); state = d.state }) elec temp integrity
  copy-counts e f elec temp integrity g = ap (λ (x : Device). after_call x (reading elec temp integrity)) (copy-applied d s room e f) ∙ rw g

  -- what the copy shows is in force then, and keeps all limits
  pub copy-in-force : Reached d → asked ≡ Act APPLY → copy_fits d.setup ≡ true → PutInForce d.setup after.setup × Acceptable after.setup.figures
  copy-in-force r e f = (
    subst (λ (g : Frame). PutInForce d.setup (setup_by d.setup g)) (sym e) (waiting.applied d.setup (reached-sound r).setup-ok.copy-representable f),
    in-force-acceptable (reached-step r (frame s room)),
  )

  -- after 17 every call does what it would have done
  pub unfit-copy-nothing : asked ≡ Act APPLY → copy_fits d.setup ≡ false → (c : Call) → after_call after c ≡ after_call d c
  unfit-copy-nothing e f c = ap (λ (g : Device). after_call g c) (copy-refused d s room e f).1

  -- "RST sets the copy back to the figures in force, unused points to 0"
  pub copy-set-back : asked ≡ Act RST → SetBack d.setup after.setup
  copy-set-back e = subst (λ (g : Frame). SetBack d.setup (setup_by d.setup g)) (sym e) (waiting.set_back d.setup)
