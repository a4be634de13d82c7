use Rattle.std.proofs.Common.{ℕ, ◌≤◌, List, [], ◌++◌, length, Vec, Bor, Global, Option, map, sym, ap, ◌∙◌, subst}
use Rattle.std.specs.Prelude.{IfSome}
use Rattle.std.specs.List.{cons_option}
use Rattle.std.proofs.lemmas.List.{append-nil}
use Rattle.std.proofs.lemmas.List.Elements.{All-nil, All-push, All-same}
use Rattle.command_edge.specs.ImageWords.{first_images}
use Rattle.command_edge.proofs.ImageNames.{first_grow}
use Rattle.command_edge.proofs.image_words.first_images.Goals.{in-Some+in_ok-push, in_default}
use Rattle.command_edge.proofs.image_words.first_images.Goals as goal

pub loop-word-init : goal.loop-word-init
unfolding first_images
loop-word-init c = record {
  range = All-same (λ (n : ℕ). (1 ≤ n) × (n ≤ length c.args.names.now)) c.new-first.result.items [] c.new-first.ensures.items (All-nil (λ (n : ℕ). (1 ≤ n) × (n ≤ length c.args.names.now)));
  exact = c.new-first.ensures.items;
}

pub loop-word-preserved : goal.loop-word-preserved
loop-word-preserved c =
    let first = c.loop-word.first.items in
    let names = map (λ (name : Bor (List ℕ)). name.now) c.args.names.now in
    elim c.match-number_started.branch [
      | in-Some+in_ok-push w ↦
          let pushed = ap (λ (v : Vec ℕ Global). v.items) w.first-is ∙ w.in_ok-push.ensures.items in record {
            range = All-same (λ (n : ℕ). (1 ≤ n) × (n ≤ length c.args.names.now)) c.match-number_started.first.items _ pushed
                (All-push (λ (n : ℕ). (1 ≤ n) × (n ≤ length c.args.names.now)) first w.in-Some.number c.loop-word.invariant.range
                (subst (λ (o : Option ℕ). IfSome o (λ n. (1 ≤ n) × (n ≤ length c.args.names.now))) w.in-Some.is c.number_started.ensures.range));
            exact = first_grow first c.match-number_started.first.items names c.args.words.now c.loop-word.word-index _ c.loop-word-test.true
                (pushed ∙ ap (λ (o : Option ℕ). first ++ cons_option o []) (sym w.in-Some.is ∙ c.number_started.ensures.exact)) c.loop-word.invariant.exact;
          }
      | in_default w ↦
          let kept = ap (λ (v : Vec ℕ Global). v.items) w.first-is in record {
            range = All-same (λ (n : ℕ). (1 ≤ n) × (n ≤ length c.args.names.now)) c.match-number_started.first.items first kept c.loop-word.invariant.range;
            exact = first_grow first c.match-number_started.first.items names c.args.words.now c.loop-word.word-index _ c.loop-word-test.true
                (kept ∙ sym (append-nil first) ∙ ap (λ (o : Option ℕ). first ++ cons_option o []) (sym w.in_default.is ∙ c.number_started.ensures.exact)) c.loop-word.invariant.exact;
          }
    ]
