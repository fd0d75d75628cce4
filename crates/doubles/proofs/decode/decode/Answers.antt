-- `decode::decode` meets its contract. Assumes nothing.
use mathlib.Core.Path.{refl, sym, subst}
use native.Mathlib.Omega.{arith}
use lib.Dec.{T}
use Rattle.doubles.proofs.Pattern.{no_nan}
use Rattle.doubles.proofs.Read.{read_zero, read_low, read_normal, field_below}
use Rattle.doubles.proofs.decode.decode.Goals as goal

pub float_to_bits-bits : goal.float_to_bits-bits
float_to_bits-bits c = no_nan c.args.x c.requires

pub returns-then-digits-eq0 : goal.returns-then-digits-eq0
returns-then-digits-eq0 c =
    record {
      plain = λ z. refl;
      value = read_zero c.args.x (subst T (sym c.well_formed.0.1) tt) c.if-field-eq0.true c.if-digits-eq0.true;
      few = omega arith;
      place = omega arith;
    }

pub returns-else-digits-eq0 : goal.returns-else-digits-eq0
returns-else-digits-eq0 c =
    record {
      plain = λ z. absurd (c.if-digits-eq0.false z);
      value = read_low c.args.x (subst T (sym c.well_formed.0.1) tt) c.if-field-eq0.true;
      few = omega arith;
      place = omega arith;
    }

pub returns-else-field-eq0 : goal.returns-else-field-eq0
returns-else-field-eq0 c =
    let holds = subst T (sym c.well_formed.0.1) tt in
    record {
      plain = λ z. absurd (omega arith);
      value = read_normal c.args.x holds c.requires c.if-field-eq0.false;
      few = omega arith;
      place = omega (arith, field_below c.args.x holds c.requires);
    }
