-- `bracket::power` calls itself at n - 1, so its measure is n. Assumes nothing.
use Rattle.bracket.proofs.powers.+power.Given as goal

abbrev pub decreases-power : goal.decreases-power
decreases-power l = l.n
