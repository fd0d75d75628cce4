-- The measure of `line::digits::digits`: how many digits there is room for.
use Rattle.line.proofs.digits.+digits.Given as goal

abbrev pub decreases-digits : goal.decreases-digits
decreases-digits l = l.most
