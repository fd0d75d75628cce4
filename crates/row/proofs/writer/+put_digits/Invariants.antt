-- The measure of `row::writer::put_digits`: how many digits are left to put.
use Rattle.row.proofs.writer.+put_digits.Given as goal

abbrev pub decreases-put_digits : goal.decreases-put_digits
decreases-put_digits l = l.k
