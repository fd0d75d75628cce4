-- `reading::of_check` meets its contract: +0.0, as which a refusal's ends read, has the bits 0. Assumes nothing.
use lib.Ieee.{to_bits}
use Rattle.reading.specs.Values.{check_values}
use Rattle.reading.proofs.of_check.Goals as goal

pub returns-in-Ok : goal.returns-in-Ok
unfolding check_values
returns-in-Ok c = rw (c.in-Ok.is, c.with_ends.ensures)

pub returns-in-Err-Refused : goal.returns-in-Err-Refused
unfolding check_values to_bits
returns-in-Err-Refused c =
    let r = c.in-Err-Refused in
    rw (r.is, rw r.is at r.field-0-is, c.number.ensures, c.place.ensures)

pub returns-in-Err-VapourPressure : goal.returns-in-Err-VapourPressure
unfolding check_values
returns-in-Err-VapourPressure c =
    let r = c.in-Err-VapourPressure in
    rw (r.is, rw r.is at r.field-0-is, c.with_ends-in-Err-VapourPressure.ensures)

pub returns-in-Err-PressureGap : goal.returns-in-Err-PressureGap
unfolding check_values
returns-in-Err-PressureGap c =
    let r = c.in-Err-PressureGap in
    rw (r.is, rw r.is at r.field-0-is, c.with_ends-in-Err-PressureGap.ensures)

pub returns-in-Err-GibbsGap : goal.returns-in-Err-GibbsGap
unfolding check_values
returns-in-Err-GibbsGap c =
    let r = c.in-Err-GibbsGap in
    rw (r.is, rw r.is at r.field-0-is, c.with_ends-in-Err-GibbsGap.ensures)

pub returns-in-Err-Stiffness : goal.returns-in-Err-Stiffness
unfolding check_values
returns-in-Err-Stiffness c =
    let r = c.in-Err-Stiffness in
    rw (r.is, rw r.is at r.field-0-is, c.with_ends-in-Err-Stiffness.ensures)
