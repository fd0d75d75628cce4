-- A refused card's ends are zeros, and so numbers. Assumes nothing.
use Rattle.verdict.specs.Reading.{zeros, Numbers}
use Rattle.verdict.proofs.HandedOut.{zeros-numbers}

pub refused_numbers : Numbers zeros × Numbers zeros × Numbers zeros
refused_numbers = (zeros-numbers, zeros-numbers, zeros-numbers)
