-- What the registers and the report show of a device that agrees with the log. Assumes nothing.
use mathlib.Core.Path.{◌≡◌, refl, sym, ap, ◌∙◌, subst}
use mathlib.Core.Bool.{Bool, true, false, cond}
use mathlib.Core.List.Memᴰ
use mathlib.Core.List.{List, [], ◌∷◌, Memᴰ}
use mathlib.Core.Logic.{⊎_elim}
use mathlib.Core.Option.{Option, none, some}
use Prim.Native.Nat.{ℕ}
use lib.Ieee.{Float}
use lib.IntN.{ℤ}
use Rattle.compensation.specs.declared.steps.Values.{Values}
use Rattle.binary32.specs.Sent.{step_float, whole_float}
use Rattle.register.specs.Number.{STAT, SOUT, SYS, TEMP, SRAW, CELL, FLAG, CRAW, ELEC, SZ, SYSN, PEAK, TROF, APPLY, RST, SNAP, PEAKRESET}
use Rattle.register.specs.Listed.{kind_said}
use Rattle.panel.specs.Figure.{is_figure, figure_float}
use Rattle.answers.specs.Register.{steps_at, reading_float, reading_at, panel_at, register_at}
use Rattle.state.specs.Report.{no_report, report_of}
use Rattle.in_force.specs.declared.Setup.{Setup}
use Rattle.state.specs.declared.Readings.{Readings}
use Rattle.state.specs.declared.reporting.Reported.{Reported}
use Rattle.answers.specs.Answer.{Value, Refused}
use Rattle.converter.specs.Log.{Kept, valued, Entry, Log}
use Rattle.converter.specs.Wire.{Sends}
use Rattle.converter.specs.History.{Right, SysnShown, AlwaysShown, of_reading, NoneShown, Shown}
use Rattle.converter.specs.declared.Device.{Device}
use Rattle.converter.proofs.Listed.{unlisted, listed_at, from-cgai, figure-listed}
use Rattle.converter.proofs.Snapshot.{Taken}
use Rattle.converter.proofs.Wire.{register, sends, withholds, unlisted-withheld}

-- ---- the report

report-of : (r : Readings) (v : Values) → r.any ≡ true → r.values ≡ v
    → report_of r ≡ record { number = 0; report = record { sys = step_float v.sys; peak = step_float r.peak; trof = step_float r.trof; cell = step_float v.cell } }
unfolding report_of
report-of r v present is =
    ap (λ (b : Bool). cond b (given r.values) (record { number = 10; report = no_report })) present ∙ ap given is
  where
    given : Values → Reported
    given u = record { number = 0; report = record { sys = step_float u.sys; peak = step_float r.peak; trof = step_float r.trof; cell = step_float u.cell } }

-- ---- what holds of each in a list holds of one in it

abbrev Each : (ℕ → Type 0) → List ℕ → Type 0
Each P [] = Unit
Each P (n ∷ rest) = P n × Each P rest

among : (P : ℕ → Type 0) (l : List ℕ) → Each P l → (n : ℕ) → Memᴰ n l → P n
among P [] h n m = absurd (Memᴰ.not-nil m)
among P (x ∷ rest) h n m = ⊎_elim (λ e. subst P (sym e) h.0) (among P rest h.1 n) (Memᴰ.cases_cons m)

-- ---- at all times, and of a reading

module _ (d : Device) (station : d.setup.station ≡ 0 → ⊥) where
  shows : (n : ℕ) {x : Float} → unlisted (kind_said n) ≡ false → register d n ≡ Value x → Sends d n x
  shows n listed is = sends d station n (listed_at n listed) is

  sysn-shown : (s : Option ℤ) → Taken d.state.snapshot s → SysnShown d s
  unfolding register_at
  sysn-shown none t = withholds d station SYSN refl (listed_at SYSN refl) (ap (λ (b : Bool). cond b (Value (step_float d.state.snapshot.sysn)) (Refused 11)) t)
  sysn-shown (some z) t = shows SYSN refl (rw (t.0, t.1))

  pub always_shown : (l : Log) (s : Option ℤ) → d.setup ≡ l.setup → Taken d.state.snapshot s → AlwaysShown d l s
  unfolding register_at panel_at is_figure
  always_shown l s e t = record {
    flag = shows FLAG refl refl;
    sz = shows SZ refl (ap (λ (s : Setup). Value (step_float s.figures.system.sz)) e);
    sysn = sysn-shown s t;
    copy = λ n f. sends d station n (figure-listed n f) (rw (from-cgai n f, f) (ap (λ (t : Setup). Value (figure_float t.copy n)) e));
    apply = shows APPLY refl refl;
    rst = shows RST refl refl;
    snap = shows SNAP refl refl;
    peak_reset = shows PEAKRESET refl refl;
    unlisted = unlisted-withheld d station;
  }

  -- ---- without a reading

  abbrev Read : ℕ → Type 0
  Read n = (unlisted (kind_said n) ≡ false) × (register d n ≡ reading_at d.state.readings n)

  read : Each Read of_reading
  unfolding register_at
  read = ((refl, refl), ((refl, refl), ((refl, refl), ((refl, refl), ((refl, refl), ((refl, refl), ((refl, refl), ((refl, refl), ((refl, refl), ((refl, refl), tt))))))))))

  pub none-shown : d.state.readings.any ≡ false → NoneShown d
  unfolding report_of reading_at
  none-shown e = record {
    values = λ n m. let r = among Read of_reading read n m in withholds d station n refl (listed_at n r.0) (r.1 ∙ rw e);
    report = rw e;
  }

  -- ---- and with one

  pub shown : (es : List Entry) (k : Kept) → Right d.state.readings es k → Shown d k
  unfolding register_at reading_at reading_float steps_at
  shown es k f = record {
    stat = of STAT refl refl (ap (λ (v : Values). whole_float v.stat) f.values_are);
    sout = of SOUT refl refl (ap (λ (v : Values). step_float v.sys) f.values_are);
    sys = of SYS refl refl (ap (λ (v : Values). step_float v.sys) f.values_are);
    temp = of TEMP refl refl (ap step_float f.temp_is);
    sraw = of SRAW refl refl (ap (λ (v : Values). step_float v.sraw) f.values_are);
    cell = of CELL refl refl (ap (λ (v : Values). step_float v.cell) f.values_are);
    craw = of CRAW refl refl (ap (λ (v : Values). step_float v.craw) f.values_are);
    elec = of ELEC refl refl (ap step_float f.elec_is);
    peak = of PEAK refl refl refl;
    trof = of TROF refl refl refl;
    report = report-of d.state.readings (valued k) f.present f.values_are;
  }
    where
      of : (n : ℕ) {x : Float} → unlisted (kind_said n) ≡ false → register d n ≡ reading_at d.state.readings n → reading_float d.state.readings n ≡ x → Sends d n x
      of n listed here is = shows n listed (here ∙ ap (λ (b : Bool). cond b (Value (reading_float d.state.readings n)) (Refused 10)) f.present ∙ ap Value is)
