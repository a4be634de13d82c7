-- No pair, one more pair, and the end.
use Rattle.std.proofs.Common.{rules, ◌≡◌, ◌<◌, length}
use Rattle.run_text.proofs.HexRows.{hex_none, hex_push, hex_end}
use Rattle.run_text.proofs.hex.read_hex.Goals as goal

pub returns-in_default : goal.returns-in_default
returns-in_default c =
    let some : 0 < length c.loop-rest.rest.now = search rules in
    hex_none c.args.text.now c.loop-rest.bytes.items c.loop-rest.rest.now some c.in_default.ensures c.loop-rest.invariant

pub loop-rest-preserved : goal.loop-rest-preserved
loop-rest-preserved c =
    hex_push c.args.text.now c.loop-rest.bytes.items c.push.new.self.items c.loop-rest.rest.now c.in-Some.more.now c.in-Some.byte c.in-Ok.ensures.items c.in-Some.ensures.1
    c.in-Some.ensures.0 c.loop-rest.invariant

pub returns : goal.returns
returns c =
    let none : length c.loop-rest.rest.now ≡ 0 = search rules in
    hex_end c.args.text.now c.loop-rest.bytes.items c.loop-rest.rest.now none c.loop-rest.invariant
