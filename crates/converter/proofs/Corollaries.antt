-- What follows for single calls: refused calls, silence and exceptions, and what each accepted request does, as the next read shows
-- it. Assumes nothing.
use mathlib.Core.Path.{◌≡◌, refl, sym, ap, ◌∙◌, subst}
use mathlib.Core.Bool.{Bool, true, false, cond, ◌||◌, ◌&&◌, true≢false}
use mathlib.Core.List.{List, [], ◌∷◌, ◌++◌}
use Prim.Native.Nat.{ℕ, ◌≤◌}
use native.Mathlib.Omega.{arith}
use lib.Bits.{bit_and, bit_or}
use lib.Dec.{eqb, leb, ltb, leb→le}
use lib.Ieee.{Float}
use lib.IntN.{ℤ}
use lib.ListN.{length, take, drop}
use borrow.Author.Tests.{eq-eqb, ne_eqb, le-ltb}
use Rattle.integers.proofs.Machine.{and_left}
use Rattle.integers.proofs.Order.{is_true}
use Rattle.binary32.specs.Received.{counted}
use Rattle.figures.specs.Unused.{unused_zero}
use Rattle.register.specs.Number.{FLAG, SZ, SYSN, PEAK, TROF, APPLY, RST, SNAP, PEAKRESET}
use Rattle.register.specs.Register.{range_of}
use Rattle.register.specs.Listed.{kind_said}
use Rattle.modbus.specs.Exception.{with_top_set, code_said, Heard}
use Rattle.modbus.proofs.Exception.{exceptions-hold}
use Rattle.panel.specs.Figure.{figure_at, is_figure, with_figure, written}
use Rattle.panel.proofs.Places.{read-written, others_kept, counts-written}
use Rattle.answers.proofs.Answers.{answer-obeyed}
use Rattle.converter.proofs.Entries.{unobeyed}
use Rattle.converter.proofs.Reached.{reached-step, reached-sound}
use Rattle.converter.proofs.Station.{reached-station}
use Rattle.converter.proofs.Wire.{register, sends, withholds}
use Rattle.converter.proofs.Listed.{unlisted, listed_at}
use Rattle.binary32.specs.Sent.{step_float, whole_float}
use Rattle.checksum.specs.Checksum.{framed}
use Rattle.probe.specs.Probe.{is_beyond, temp_of}
use Rattle.modbus.specs.Frame.{station_of, function_of, for_us, to_us, checked, judged}
use Rattle.modbus.specs.Reply.{silent, unless_silent, write_reply, exception_code, exception_reply}
use Rattle.modbus.proofs.Replies.{length-framed, value-fits, write-fits, exception-fits}
use Rattle.modbus.specs.Judgement.{Frame, Write, Act}
use Rattle.state.specs.Reading.{bad_reading}
use Rattle.in_force.specs.InForce.{with_figures, with_copy, zero_steps, offered, copy_fits, applied, setup_written, setup_acted, setup_by}
use Rattle.state.specs.Request.{flag_whole, acted, flagged, state_by, restarted, snapped, peaks_at, peaks_reset}
use Rattle.answers.specs.Register.{steps_at, reading_float, reading_at, register_at, answer_of, on_copy, number_of}
use Rattle.answers.specs.Parts.{obeys}
use Rattle.state.specs.Report.{report_of}
use Rattle.state.specs.declared.State.{State}
use Rattle.answers.specs.Answer.{Answer}
use Rattle.answers.specs.Answer.{Value, Done, Refused}
use Rattle.converter.specs.Corner.{corner_refused}
use Rattle.converter.specs.Call.{Call, reading, frame, report, corner, probe, obeyed, after_sample, after_call, answer_to_bytes, sample_number, number, reply_with, reply}
use Rattle.converter.specs.Reached.{Reached, Served, Serving}
use Rattle.converter.specs.Wire.{Sends, Withholds}
use Rattle.converter.specs.declared.Device.{Device}

-- ---- "No refusal changes a device"

obeyed-unchanged : (d : Device) (f : Frame) → (number_of (answer_of d.state d.setup f) ≡ 0 → ⊥) → obeyed d f ≡ d
obeyed-unchanged d f h = by (obeys d.state d.setup f) refl
  where
    by : (b : Bool) → obeys d.state d.setup f ≡ b → obeyed d f ≡ d
    by true e = absurd (h (ap number_of (answer-obeyed d.state d.setup f e)))
    by false e = unobeyed d f e

-- by a call that changes the device to e, or is refused by n
unless-refused : (n : ℕ) (refused : Bool) (d e : Device) → (cond refused n 0 ≡ 0 → ⊥) → cond refused d e ≡ d
unless-refused n true d e h = refl
unless-refused n false d e h = absurd (h refl)

probe-unchanged : (d : Device) (elec temp : ℤ) (integrity : ℕ) (beyond : Bool) → (cond beyond 20 (sample_number elec temp integrity) ≡ 0 → ⊥) → cond beyond d (after_sample d elec temp integrity) ≡ d
probe-unchanged d elec temp integrity true h = refl
probe-unchanged d elec temp integrity false h = unless-refused 9 (bad_reading elec temp integrity) d _ h

pub refused-unchanged : (d : Device) (c : Call) → (number d c ≡ 0 → ⊥) → after_call d c ≡ d
unfolding answer_to_bytes
refused-unchanged d (reading elec temp integrity) h = unless-refused 9 (bad_reading elec temp integrity) d _ h
refused-unchanged d (frame bytes room) h = obeyed-unchanged d (judged bytes room d.setup.station) h
refused-unchanged d report h = refl
refused-unchanged d (corner own samples) h = unless-refused 18 (corner_refused samples) d _ h
refused-unchanged d (probe elec resistance integrity) h = probe-unchanged d elec (temp_of resistance) integrity (is_beyond resistance) h

-- ---- the length replied is within the lent buffer

pub reply-fits : (d : Device) (s : List ℕ) (room : ℕ) → length (reply d s room) ≤ room
reply-fits d s room = go (answer_to_bytes d s room)
  where
    go : (a : Answer) → length (reply_with s room a) ≤ room
    go (Value x) = value-fits s room x
    go Done = write-fits s room
    go (Refused n) = exception-fits s room n

-- ---- silence: 12 and 13, and every broadcast, leave all bytes of the buffer

of_number : (a : Answer) (n : ℕ) → number_of a ≡ n → (n ≡ 0 → ⊥) → a ≡ Refused n
of_number (Value x) n e h = absurd (h (sym e))
of_number Done n e h = absurd (h (sym e))
of_number (Refused m) n e h = ap Refused e

module _ (d : Device) (s : List ℕ) (room : ℕ) where
  pub refused-reply : (n : ℕ) → number d (frame s room) ≡ n → (n ≡ 0 → ⊥) → reply d s room ≡ exception_reply s room n
  refused-reply n e h = ap (reply_with s room) (of_number (answer_to_bytes d s room) n e h)

  pub silent-12 : number d (frame s room) ≡ 12 → reply d s room ≡ []
  unfolding exception_reply exception_code
  silent-12 e = refused-reply 12 e (λ h. omega (arith, h))

  pub silent-13 : number d (frame s room) ≡ 13 → reply d s room ≡ []
  unfolding exception_reply exception_code
  silent-13 e = refused-reply 13 e (λ h. omega (arith, h))

  silent-to-all : station_of s ≡ 0 → silent s room ≡ true
  unfolding silent
  silent-to-all e = rw (eq-eqb (station_of s) 0 e) (or-true (ltb room 9) (ltb (length s) 4))
    where
      or-true : (a b : Bool) → a || b || true ≡ true
      or-true true b = refl
      or-true false true = refl
      or-true false false = refl

  unanswered : station_of s ≡ 0 → (bytes : List ℕ) → unless_silent s room bytes ≡ []
  unfolding unless_silent
  unanswered e bytes = ap (λ (b : Bool). cond b [] (framed bytes)) (silent-to-all e)

  pub silent-broadcast : station_of s ≡ 0 → reply d s room ≡ []
  unfolding write_reply exception_reply
  silent-broadcast e = go (answer_to_bytes d s room)
    where
      either : (b : Bool) (x : List ℕ) → x ≡ [] → (cond b x [] ≡ []) × (cond b [] x ≡ [])
      either true x h = (h, refl)
      either false x h = (refl, h)

      go : (a : Answer) → reply_with s room a ≡ []
      go (Value x) = unanswered e _
      go Done = (either (eqb (length s) 13) (unless_silent s room (take 6 s)) (unanswered e _)).0
      go (Refused n) = (either (eqb (exception_code n (function_of s)) 0) (unless_silent s room (station_of s ∷ bit_or (function_of s) 128 ∷ exception_code n (function_of s) ∷ [])) (unanswered e _)).1

-- what silence means for the lent buffer and the length
pub silence : {d : Device} {s before after : List ℕ} {r : Served} → Serving d s before after r → reply d s (length before) ≡ [] → (after ≡ before) × (r.length ≡ 0)
silence {d} {s} {before} h e = (h.replied.buffer ∙ ap (λ (l : List ℕ). l ++ drop (length l) before) e, h.replied.count ∙ ap length e)

-- ---- an exception: five bytes and no other

abbrev pub exception_bytes : List ℕ → ℕ → List ℕ
exception_bytes s n = station_of s ∷ bit_or (function_of s) 128 ∷ exception_code n (function_of s) ∷ []

module _ (d : Device) (s : List ℕ) (room : ℕ) where
  no_room : ltb room 9 ≡ true → number d (frame s room) ≡ 12
  unfolding answer_to_bytes answer_of judged
  no_room e = rw e

  not-for-us : ltb room 9 ≡ false → for_us s d.setup.station ≡ false → number d (frame s room) ≡ 13
  unfolding answer_to_bytes answer_of judged
  not-for-us e f = rw (e, f)

  module _ (code : exception_code (number d (frame s room)) (function_of s) ≡ 0 → ⊥) (ours : station_of s ≡ 0 → ⊥) where
    codeless : (n : ℕ) → exception_code n (function_of s) ≡ 0 → number d (frame s room) ≡ n → ⊥
    codeless n z e = code (ap (λ (m : ℕ). exception_code m (function_of s)) e ∙ z)

    numbered : number d (frame s room) ≡ 0 → ⊥
    unfolding exception_code
    numbered = codeless 0 refl

    roomy : (b : Bool) → ltb room 9 ≡ b → b ≡ false
    unfolding exception_code
    roomy true e = absurd (codeless 12 refl (no_room e))
    roomy false e = refl

    addressed : (b : Bool) → for_us s d.setup.station ≡ b → b ≡ true
    unfolding exception_code
    addressed true e = refl
    addressed false e = absurd (codeless 13 refl (not-for-us (roomy (ltb room 9) refl) e))

    framed-long : ltb (length s) 4 ≡ false
    unfolding for_us
    framed-long =
        let sized = leb 4 (length s) && leb (length s) 256 in
        let is_to_us = to_us (station_of s) (function_of s) d.setup.station in
        le-ltb _ _ (leb→le 4 (length s) (and_left (leb 4 (length s)) (leb (length s) 256) (and_left sized is_to_us (and_left (sized && is_to_us) (checked s) (is_true (addressed (for_us s d.setup.station) refl))))))

    answered-aloud : silent s room ≡ false
    unfolding silent
    answered-aloud = rw (roomy (ltb room 9) refl, framed-long, ne_eqb (station_of s) 0 ours)

    pub exception-reply : reply d s room ≡ framed (exception_bytes s (number d (frame s room)))
    unfolding exception_reply unless_silent
    exception-reply =
        refused-reply d s room (number d (frame s room)) refl numbered
        ∙ ap (λ (b : Bool). cond b [] (unless_silent s room (exception_bytes s (number d (frame s room))))) (ne_eqb _ 0 code)
        ∙ ap (λ (b : Bool). cond b [] (framed (exception_bytes s (number d (frame s room))))) answered-aloud

-- and by the papers' table of codes
pub exception-told : (d : Device) (s : List ℕ) (room n f : ℕ) → number d (frame s room) ≡ n → function_of s ≡ f → (code_said n f ≡ 0 → ⊥) → Heard s room
    → reply d s room ≡ framed (station_of s ∷ with_top_set f ∷ code_said n f ∷ [])
exception-told d s room n f e g code h = refused-reply d s room n e (λ z. code (ap (λ (m : ℕ). code_said m f) z)) ∙ exceptions-hold.hold n f code s room h g

-- the buffer and the length, by the entry's own answer
pub exception : {d : Device} {s before after : List ℕ} {r : Served} → Serving d s before after r → (exception_code r.number (function_of s) ≡ 0 → ⊥) → (station_of s ≡ 0 → ⊥)
    → (r.length ≡ 5) × (after ≡ framed (exception_bytes s r.number) ++ drop 5 before)
exception {d} {s} {before} {after} {r} h code ours =
    let same : number d (frame s (length before)) ≡ r.number = sym h.number_is in
    let made : reply d s (length before) ≡ framed (exception_bytes s r.number) =
    exception-reply d s (length before) (λ z. code (ap (λ (n : ℕ). exception_code n (function_of s)) (sym same) ∙ z)) ours ∙ ap (λ (n : ℕ). framed (exception_bytes s n)) same in (
      h.replied.count ∙ ap length made ∙ length-framed (exception_bytes s r.number),
      h.replied.buffer ∙ ap (λ (l : List ℕ). l ++ drop (length l) before) made ∙ ap (λ (n : ℕ). framed (exception_bytes s r.number) ++ drop n before) (length-framed (exception_bytes s r.number)),
    )

-- ---- what each accepted request does

module _ (d : Device) (s : List ℕ) (room : ℕ) where
  abbrev pub after : Device
  after = after_call d (frame s room)

  does : (f : Frame) → judged s room d.setup.station ≡ f → after ≡ obeyed d f
  does f e = ap (λ (g : Frame). obeyed d g) e

  -- what a register holds then, the next read sends
  shown : Reached d → (n : ℕ) {x : Float} → unlisted (kind_said n) ≡ false → register after n ≡ Value x → Sends after n x
  shown h n listed is = sends after (reached-station (reached-step h (frame s room))) n (listed_at n listed) is

  -- "SNAP copies SYS to SYSN"
  pub snap-shown : Reached d → judged s room d.setup.station ≡ Act SNAP → d.state.readings.any ≡ true → Sends after SYSN (step_float d.state.readings.values.sys)
  unfolding setup_by setup_acted acted state_by snapped register_at
  snap-shown h e any =
      let t = d.state in
      let taken : State = record { readings = t.readings; flag = t.flag; snapshot = record { taken = true; sysn = t.readings.values.sys } } in
      shown h SYSN refl (ap (λ (g : Device). register g SYSN) (does (Act SNAP) e ∙ ap (λ (b : Bool). record { setup = d.setup; state = cond b taken t }) any))

  -- a written SZ
  pub zero-shown : Reached d → (x : Float) → judged s room d.setup.station ≡ Write SZ x → Sends after SZ (step_float (zero_steps x)) × (after.state ≡ d.state)
  unfolding setup_by setup_written is_figure state_by flagged register_at
  zero-shown h x e = (shown h SZ refl (ap (λ (g : Device). register g SZ) (does (Write SZ x) e)), ap (λ (g : Device). g.state) (does (Write SZ x) e))

  -- "a FLAG write clears the bits it lacks"
  pub flag-shown : Reached d → (x : Float) → judged s room d.setup.station ≡ Write FLAG x → Sends after FLAG (whole_float (bit_and d.state.flag (flag_whole x)))
  unfolding setup_by setup_written is_figure state_by flagged register_at
  flag-shown h x e = shown h FLAG refl (ap (λ (g : Device). register g FLAG) (does (Write FLAG x) e))

  -- "RST forgets readings, snapshot and filter", keeps the figures, sets the copy back to them and adds REBOOT to FLAG
  pub rst-restarts : judged s room d.setup.station ≡ Act RST → after ≡ record { setup = with_copy d.setup (unused_zero d.setup.figures); state = restarted d.state }
  unfolding setup_by setup_acted acted state_by
  rst-restarts e = does (Act RST) e

  -- so the next reads show the flags that stood beside REBOOT, the SZ that was in force and no snapshot, and a report is refused
  pub rst-shown : Reached d → judged s room d.setup.station ≡ Act RST
      → Sends after FLAG (whole_float (bit_or d.state.flag 32768)) × Sends after SZ (step_float d.setup.figures.system.sz) × Withholds after SYSN 11 × ((report_of after.state.readings).number ≡ 10)
  unfolding register_at restarted report_of
  rst-shown h e = (
    shown h FLAG refl (ap (λ (g : Device). register g FLAG) (rst-restarts e)),
    shown h SZ refl (ap (λ (g : Device). register g SZ) (rst-restarts e)),
    withholds after (reached-station (reached-step h (frame s room))) SYSN refl (listed_at SYSN refl) (ap (λ (g : Device). register g SYSN) (rst-restarts e)),
    ap (λ (g : Device). (report_of g.state.readings).number) (rst-restarts e),
  )

  -- "a peak reset, which sets both to the present SYS"
  pub peaks-shown : Reached d → judged s room d.setup.station ≡ Act PEAKRESET → d.state.readings.any ≡ true
      → Sends after PEAK (step_float d.state.readings.values.sys) × Sends after TROF (step_float d.state.readings.values.sys)
  unfolding setup_by setup_acted acted state_by peaks_reset register_at reading_at reading_float steps_at
  peaks-shown h e any =
      let t = d.state in
      let reset : State = record { readings = peaks_at t.readings; flag = t.flag; snapshot = t.snapshot } in
      let sys : Float = step_float t.readings.values.sys in
      let is : after ≡ record { setup = d.setup; state = reset } = does (Act PEAKRESET) e ∙ ap (λ (b : Bool). record { setup = d.setup; state = cond b reset t }) any in
      let sent : cond t.readings.any (Value sys) (Refused 10) ≡ Value sys = ap (λ (b : Bool). cond b (Value sys) (Refused 10)) any in
      (shown h PEAK refl (ap (λ (g : Device). register g PEAK) is ∙ sent), shown h TROF refl (ap (λ (g : Device). register g TROF) is ∙ sent))

  -- an accepted write to 99 puts the copy in force, all but SZ, and touches nothing else; `after_reading` (`specs/Call.antt`) takes the next
  -- reading by these figures
  pub copy-applied : judged s room d.setup.station ≡ Act APPLY → copy_fits d.setup ≡ true
      → after ≡ record { setup = with_figures d.setup (offered d.setup.figures.system.sz d.setup.copy); state = d.state }
  unfolding setup_by setup_acted applied acted state_by
  copy-applied e f = does (Act APPLY) e ∙ rw f

  -- and one that is refused, with 17, nothing
  pub copy-refused : judged s room d.setup.station ≡ Act APPLY → copy_fits d.setup ≡ false → (number d (frame s room) ≡ 17) × (after ≡ d)
  unfolding setup_by setup_acted applied acted state_by answer_to_bytes answer_of on_copy
  copy-refused e f = (rw (e, f), does (Act APPLY) e ∙ rw f)

  -- a written figure: its own register shows it, every other of the copy what it showed, and nothing else changes
  pub figure-shown : Reached d → (n : ℕ) (x : Float) → is_figure n ≡ true → judged s room d.setup.station ≡ Write n x
      → (figure_at after.setup.copy n ≡ counted (range_of n) x) × ((m : ℕ) → (m ≡ n → ⊥) → figure_at after.setup.copy m ≡ figure_at d.setup.copy m) × (after.setup.figures ≡ d.setup.figures) × (after.state ≡ d.state)
  unfolding setup_by setup_written state_by flagged written is_figure
  figure-shown h n x f e =
      let r = (reached-sound h).setup-ok.copy-representable in
      let z = counted (range_of n) x in
      let is : after ≡ record { setup = with_copy d.setup (with_figure n z d.setup.copy); state = d.state } = does (Write n x) e ∙ rw (not_at SZ refl, not_at FLAG refl, f) in
      subst
      (λ (g : Device). (figure_at g.setup.copy n ≡ z) × ((m : ℕ) → (m ≡ n → ⊥) → figure_at g.setup.copy m ≡ figure_at d.setup.copy m) × (g.setup.figures ≡ d.setup.figures) × (g.state ≡ d.state))
      (sym is)
      (read-written n z d.setup.copy r (counts-written n x) f, λ m ne. others_kept n z d.setup.copy r (counts-written n x) m ne, refl, refl)
    where
      not_at : (k : ℕ) → is_figure k ≡ false → eqb n k ≡ false
      not_at k g = ne_eqb n k (λ p. true≢false (sym f ∙ ap is_figure p ∙ g))
