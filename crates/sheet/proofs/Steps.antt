-- The steps of the cursor go as 01 says. Assumes nothing.
use Rattle.std.proofs.Common.{◌+◌, ◌<◌, ◌≤◌, length, arith, le-ltb, lt-ltb}
use Rattle.integers.proofs.Words.{number-at}
use Rattle.sheet.specs.Step.{count_found, figure_found, count_step, figure_step, CountGoes, FigureGoes}
use Rattle.sheet.specs.declared.Cursor.{Cursor}
use Rattle.sheet.proofs.EightBytes.{there-is}

pub count-goes : (c : Cursor) → CountGoes c (count_step c)
unfolding count_found
count-goes c = record {
  short = λ h. let t = le-ltb _ _ (to h) in (simp t, (simp t, simp t));
  there = λ h. let t = lt-ltb _ _ (on h) in (simp t, (simp (t, number-at c.sheet.now c.at 1), simp t));
}
  where
    to : length c.sheet.now < c.at + 1 → length c.sheet.now ≤ c.at
    to h = omega (arith, h)

    on : c.at + 1 ≤ length c.sheet.now → c.at < length c.sheet.now
    on h = omega (arith, h)

pub figure-goes : (c : Cursor) → FigureGoes c (figure_step c)
unfolding figure_found
figure-goes c = record {
  short = λ h. let t = lt-ltb _ _ h in (simp t, (simp t, simp t));
  there = λ h. let t = le-ltb _ _ h in (simp t, (simp (t, there-is c.sheet.now c.at h), simp t));
}
