-- One more line, for one more number.
use Rattle.std.proofs.Common.{◌≡◌, ℕ, ◌+◌, map, ap, ◌∙◌, arith}
use Rattle.std.specs.List.{range_with_len}
use Rattle.load_maker.specs.Load.{drawn, line_drawn, load_lines}
use Rattle.load_maker.proofs.Drawn.{drawn_more, lines_more}
use Rattle.load_maker.proofs.schedule.load_lines.Goals as goal

pub loop-line-preserved : goal.loop-line-preserved
loop-line-preserved c =
    let more : c.drawn_after-x.result ≡ drawn c.args.number (c.loop-line._line + 1) =
    c.drawn_after-x.ensures.value ∙ drawn_more c.args.number c.loop-line._line c.loop-line.x c.loop-line.invariant.drawn_is in
    record {
      drawn_is = more;
      small = omega (arith, c.drawn_after-x.ensures.small);
      lines_are = lines_more c.args.number c.loop-line._line c.drawn_after-x.result c.loop-line.lines.items c.push.new.self.items c.line_of_case.result
          more c.line_of_case.ensures c.in_ok-push.ensures.items c.loop-line.invariant.lines_are;
    }

pub returns : goal.returns
unfolding load_lines
returns c =
    let all : c.loop-line._line ≡ 200 = omega (arith, c.loop-line-test.false) in
    c.loop-line.invariant.lines_are ∙ ap (λ (n : ℕ). map (λ k. line_drawn (drawn c.args.number k)) (range_with_len 1 n)) all
