-- What an entry gives keeps its contract, from what the functions that it calls give. Assumes nothing.
use mathlib.Core.Path.{◌≡◌, refl, sym, ap, ◌∙◌, subst}
use mathlib.Core.Bool.{Bool, true, false, cond, ◌||◌, true≢false, false≢true}
use mathlib.Core.List.{List}
use Prim.Native.Nat.{ℕ}
use lib.Dec.{eqb}
use lib.IntN.{ℤ}
use lib.ListN.{length}
use Rattle.integers.specs.Within.{◌within◌}
use Rattle.figures.specs.Acceptable.{TemperatureAcceptable}
use Rattle.compensation.specs.ReadingLimits.{elec_most}
use Rattle.compensation.specs.Filter.{Remembered}
use Rattle.compensation.specs.ForCode.{input_at, cell_values_at, values_from, FilterInput, CellInput, ValuesInput}
use Rattle.compensation.specs.declared.steps.CellValues.{CellValues}
use Rattle.compensation.specs.declared.steps.Input.{Input}
use Rattle.compensation.specs.declared.steps.Values.{Values}
use Rattle.compensation.proofs.Magnitudes.{cell-input, values-input}
use Rattle.register.specs.Number.{APPLY, RST, SNAP, PEAKRESET}
use Rattle.compensation.proofs.Joined.{values-joined}
use Rattle.probe.specs.Probe.{is_beyond, temp_of}
use Rattle.modbus.specs.Judgement as asks
use Rattle.modbus.specs.Judgement.{Frame, Read, Write, Act}
use Rattle.state.specs.Reading.{bad_reading, readings_after, state_after_reading, state_after_values}
use Rattle.state.specs.ForCode.{held_after, remembering}
use Rattle.state.proofs.Remembered.{remembered-first}
use borrow.Author.Tests.{ne_eqb, eqb-true}
use native.Mathlib.Omega.{arith}
use Rattle.in_force.specs.InForce.{copy_fits, applied, setup_acted, setup_by}
use Rattle.state.specs.Request.{restarted, snapped, peaks_reset, acted, state_by}
use Rattle.answers.specs.Register.{number_of}
use Rattle.answers.specs.Parts.{is_read, applies, is_obeyed, obeys}
use Rattle.in_force.specs.declared.Setup.{Setup}
use Rattle.state.specs.declared.State.{State}
use Rattle.converter.specs.Call as call
use Rattle.converter.specs.Call.{Call, obeyed, after_call, number, answer_to_bytes}
use Rattle.converter.specs.Reached.{Reached, OutcomeOf, Delivers, Reading, Probing, Serving}
use Rattle.answers.specs.Answer.{Answer}
use Rattle.converter.specs.declared.bus.Answered.{Answered}
use Rattle.converter.specs.declared.Device.{Device}
use Rattle.converter.specs.declared.Outcome.{Outcome}
use Rattle.converter.proofs.Sound.{good-elec, held-within}
use Rattle.converter.proofs.Reached.{reached-step, reached-sound}

outcome : {d : Device} → Reached d → (c : Call) {r : Outcome} → r ≡ record { number = number d c; device = after_call d c } → OutcomeOf d c r
outcome h c e = record { is = e; reached = subst (λ (r : Outcome). Reached r.device) (sym e) (reached-step h c) }

-- ---- a reading by the probe

module _ {d : Device} (h : Reached d) (elec resistance : ℤ) (integrity : ℕ) where
  pub probe-refuses : is_beyond resistance ≡ true → Probing d elec resistance integrity (record { number = 20; device = d })
  probe-refuses b = outcome h (call.probe elec resistance integrity) (rw b refl)

  pub probe-reads : is_beyond resistance ≡ false → {r : Outcome} → Reading d elec (temp_of resistance) integrity r → Probing d elec resistance integrity r
  probe-reads b k = outcome h (call.probe elec resistance integrity) (rw b k.is)

-- ---- a reading

module _ {d : Device} (h : Reached d) (elec temp : ℤ) (integrity : ℕ) where
  gives : {r : Outcome} → r ≡ record { number = number d (call.reading elec temp integrity); device = after_call d (call.reading elec temp integrity) } → Reading d elec temp integrity r
  gives = outcome h (call.reading elec temp integrity)

  pub refuses : bad_reading elec temp integrity ≡ true → Reading d elec temp integrity (record { number = 9; device = d })
  refuses b = gives (rw b refl)

  -- a good one: what each function that is called asks, by what those before it gave
  module _ (good : bad_reading elec temp integrity ≡ false) where
    pub takes : {e : Device} → e ≡ after_call d (call.reading elec temp integrity) → Reading d elec temp integrity (record { number = 0; device = e })
    takes {e} e-is = gives (ap (λ (x : Device). record { number = 0; device = x }) e-is ∙ rw good refl)

    pub filters : FilterInput d.setup.figures.filter d.state.readings.input d.state.readings.elec elec
    filters = let s = reached-sound h in record { acceptable = s.setup-ok.acceptable.filter_ok; previous_in = s.state-ok.readings-ok.input_in; held_in = s.state-ok.readings-ok.held_in; input_in = good-elec elec temp integrity good }

    pub adjusts : TemperatureAcceptable d.setup.figures.temperature
    adjusts = (reached-sound h).setup-ok.acceptable.temperature_ok

    kept : (held_after d.setup.figures d.state.readings elec) within elec_most
    kept = let s = reached-sound h in held-within d.setup.figures d.state.readings elec s.setup-ok.acceptable s.state-ok.readings-ok.held_in (good-elec elec temp integrity good)

    module _ {held : ℤ} {i : Input} (held-is : held ≡ held_after d.setup.figures d.state.readings elec) (i-is : i ≡ input_at d.setup.figures.temperature held temp) where
      pub corrects : CellInput d.setup.figures.cell d.setup.figures.linearity i
      corrects = rw (i-is, held-is) (cell-input d.setup.figures _ temp (reached-sound h).setup-ok.acceptable kept)

      module _ {k : CellValues} (k-is : k ≡ cell_values_at d.setup.figures.cell d.setup.figures.linearity i) where
        pub scales : ValuesInput d.setup.figures.cell d.setup.figures.system k
        scales = rw (k-is, i-is, held-is) (values-input d.setup.figures _ temp (reached-sound h).setup-ok.acceptable kept)

        -- and what the state that is given last makes of the device
        pub joins : {v : Values} {r s : State} → v ≡ values_from d.setup.figures.cell d.setup.figures.system k held temp integrity → r ≡ remembering d.state elec → s ≡ state_after_values r (record { input = r.readings.input; held = held }) temp v
            → Reading d elec temp integrity (record { number = 0; device = record { setup = d.setup; state = s } })
        unfolding state_after_reading
        joins v-is r-is s-is = gives (rw (good, s-is, r-is, remembered-first d.state elec held temp _, v-is, k-is, i-is, held-is, values-joined) refl)

-- and its SYS
pub sys-joined : (r : State) (m : Remembered) (temp : ℤ) (v : Values) {s : State} → s ≡ state_after_values r m temp v → v.sys ≡ s.readings.values.sys
unfolding state_after_values readings_after
sys-joined r m temp v e = sym (ap (λ (s : State). s.readings.values.sys) e)

-- ---- a frame

-- an action whose tests fail: 99 with a copy that does not fit; or one that is not RST, with no reading
not-acted : (d : Device) (apply rst snap reset fits : Bool) (s t : Setup) → (apply ≡ true → (rst ≡ false) × (snap ≡ false) × (reset ≡ false)) → cond apply fits (rst || d.state.readings.any) ≡ false
    → record {
      setup = cond apply (cond fits s d.setup) (cond rst t d.setup);
      state = cond rst (restarted d.state) (cond snap (snapped d.state) (cond reset (peaks_reset d.state) d.state));
    } ≡ d
unfolding snapped peaks_reset
not-acted d true rst snap reset fits s t n e = rw (e, (n refl).0, (n refl).1, (n refl).2)
not-acted d false true snap reset fits s t n e = absurd (true≢false e)
not-acted d false false true reset fits s t n e = rw e
not-acted d false false false true fits s t n e = rw e
not-acted d false false false false fits s t n e = refl

-- a frame that is not obeyed leaves the device
pub unobeyed : (d : Device) (f : Frame) → obeys d.state d.setup f ≡ false → obeyed d f ≡ d
unfolding applies is_obeyed setup_by setup_acted applied state_by acted
unobeyed d (asks.Refused n) e = refl
unobeyed d (Read n) e = refl
unobeyed d (Write r x) e = absurd (true≢false e)
unobeyed d (Act r) e =
    not-acted d (eqb r APPLY) (eqb r RST) (eqb r SNAP) (eqb r PEAKRESET) (copy_fits d.setup) _ _
    (λ g. (no g RST (λ h. omega (arith, h)), no g SNAP (λ h. omega (arith, h)), no g PEAKRESET (λ h. omega (arith, h)))) e
  where
    no : eqb r APPLY ≡ true → (k : ℕ) → (k ≡ APPLY → ⊥) → eqb r k ≡ false
    no g k ne = ne_eqb r k (λ h. ne (sym h ∙ eqb-true r APPLY g))

-- and so does a read
pub read-unobeyed : (d : Device) (f : Frame) → is_read f ≡ true → obeyed d f ≡ d
unfolding is_read setup_by state_by
read-unobeyed d (asks.Refused n) e = absurd (false≢true e)
read-unobeyed d (Read n) e = refl
read-unobeyed d (Write r x) e = absurd (false≢true e)
read-unobeyed d (Act r) e = absurd (false≢true e)

-- the answer x that a frame is due, once it is delivered, and the device that is left keep the contract
pub serves : {d : Device} → Reached d → (bytes before after : List ℕ) {r : Answered} {e : Device} {x : Answer}
    → x ≡ answer_to_bytes d bytes (length before) → e ≡ after_call d (call.frame bytes (length before)) → Delivers x bytes before after r
    → Serving d bytes before after (record { number = r.number; length = r.length; device = e })
serves h bytes before after due left answers = record {
  number_is = answers.number_is ∙ ap number_of due;
  device_is = left;
  replied = (rw due at answers).replied;
  reached = subst Reached (sym left) (reached-step h (call.frame bytes (length before)));
}
