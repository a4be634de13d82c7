use Rattle.std.proofs.Common.{◌≡◌, ◌<◌, length, get_or, sym, ap, ◌∙◌, arith}
use Rattle.std.proofs.lemmas.Bool.Decides.{nat_tests}
use Rattle.space_map.specs.Space.{Places}
use Rattle.kernel_tables.proofs.Rising.{at_place}
use Rattle.kernel_tables.proofs.spaces.stands_there.Goals as goal

pub returns-in-Some : goal.returns-in-Some
returns-in-Some c = λ e.
    let s : Places = c.in-Some.space.now in
    let within : c.args.index < length c.args.maps.now = c.in-Some.ensures.lookup.3.0 in
    let read : s ≡ get_or c.args.maps.now c.args.index s = c.in-Some.ensures.lookup.1 in
    let number : c.sid.result ≡ c.args.sid = grind (arith, nat_tests) in
    record { in_range = within; number = at_place c.args.maps.now s c.args.index c.args.sid within (ap (λ (x : Places). x.sid) (sym read) ∙ sym c.sid.ensures ∙ number) }
