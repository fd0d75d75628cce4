-- `row::reader::guess` meets its contract. Assumes nothing.
use Rattle.row.proofs.Guessed.{guessed}
use Rattle.row.proofs.reader.guess.Goals as goal

pub returns : goal.returns
returns c =
    let a = c.args in
    let s = a.text.now in
    let e1 = c.past_at-d.ensures.0 in
    let e2 = c.past_at-t.ensures.0 in
    let e3 = c.past_at-sign.ensures.0 in
    let e4 = c.front_at-ten.ensures.0 in
    guessed s a.at e1 e2 e3 e4
    c.small_at.ensures
    c.small_at-2.ensures
    c.small_at-3.ensures
    c.minus_at.ensures
    c.ten_at.ensures
    c.power_at.ensures
