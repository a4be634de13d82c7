use Rattle.std.proofs.Common.{◌≡◌, ap, ◌∙◌, arith}
use Rattle.space_map.specs.Space.{Places}
use Rattle.kernel_tables.specs.Machine.{lists_of}
use Rattle.kernel_tables.proofs.AddedTied.{image_range}
use Rattle.kernel_tables.proofs.AddedNumbers.{few_share}
use Rattle.kernel_tables.proofs.tables.Tables.add_space.Goals as goal

pub enter-requires : goal.enter-requires
enter-requires c =
    let r = image_range (lists_of c.args.self.now) c.args.space.image c.args.space.facts c.requires.known.tied c.requires.facts in
    let e : c.image-image.result ≡ c.args.space.image = c.image-image.ensures ∙ ap (λ (s : Places). s.image) c.place_text.ensures in
    record {
      from_one = omega (arith, r.0, e);
      to_last = omega (arith, r.1, e);
      room =
          let few = few_share (lists_of c.args.self.now) c.image-image.result c.requires.known.tied (omega (arith, r.0, e)) (omega (arith, r.1, e)) in
          let last = c.in_ok-push.ensures.few in
          let one_more = c.in_ok-number.ensures.next in
          let sid : c.place_text.new.space.sid ≡ c.args.self.now.next_sid = ap (λ (s : Places). s.sid) c.place_text.ensures ∙ c.requires.number in
          omega arith;
    }
