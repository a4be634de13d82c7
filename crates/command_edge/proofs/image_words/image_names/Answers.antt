use Rattle.std.proofs.Common.{ℕ, List, [], ◌∷◌, Vec, Bor, Global, bytes_eq, length, ◌<◌, map, true, false, sym, ap, ◌∙◌, subst, length-append, arith}
use Rattle.std.specs.List.{list_any}
use Rattle.std.proofs.lemmas.List.Elements.{All-nil, All-push, All-same}
use Rattle.command_edge.specs.ImageWords.{image_names}
use Rattle.command_edge.proofs.ImageNames.{names_grow}
use Rattle.command_edge.proofs.image_words.image_names.Goals.{then-not-is_among+in_ok-push, else-not-is_among}
use Rattle.command_edge.proofs.image_words.image_names.Goals as goal

pub loop-word-init : goal.loop-word-init
unfolding image_names
loop-word-init c = record {
  few = omega (arith, ap length c.new-names.ensures.items);
  short = λ most each. All-same (λ (name : Bor (List ℕ)). length name.now < most) c.new-names.result.items [] c.new-names.ensures.items (All-nil (λ (name : Bor (List ℕ)). length name.now < most));
  exact = ap (map (λ (name : Bor (List ℕ)). name.now)) c.new-names.ensures.items;
}

pub loop-word-preserved : goal.loop-word-preserved
loop-word-preserved c =
    let among = c.is_among.ensures ∙ ap (list_any (λ (other : Bor (List ℕ)). bytes_eq other.now c.name_in-name.result.now)) c.as_slice.ensures.value in
    let names = c.loop-word.names.items in
    let name = c.name_in-name.result in
    elim c.if-not-is_among.branch [
      | then-not-is_among+in_ok-push w ↦
          let pushed = ap (λ (v : Vec (Bor (List ℕ)) Global). v.items) w.names-is ∙ w.in_ok-push.ensures.items in record {
            few = omega (arith, ap length pushed, length-append names (name ∷ []), c.loop-word.invariant.few);
            short = λ most each.
                All-same (λ (other : Bor (List ℕ)). length other.now < most) c.if-not-is_among.names.items _ pushed
                (All-push (λ (other : Bor (List ℕ)). length other.now < most) names name (c.loop-word.invariant.short most each)
                (subst (λ (xs : List ℕ). length xs < most) (sym c.name_in-name.ensures) (each c.loop-word.word-index _ c.loop-word-test.true)));
            exact = names_grow names c.if-not-is_among.names.items c.args.words.now c.loop-word.word-index _ name false c.loop-word-test.true c.name_in-name.ensures
                (sym w.if-not-is_among.true ∙ among) pushed c.loop-word.invariant.exact;
          }
      | else-not-is_among w ↦
          let kept = ap (λ (v : Vec (Bor (List ℕ)) Global). v.items) w.names-is in record {
            few = omega (arith, ap length kept, c.loop-word.invariant.few);
            short = λ most each. All-same (λ (other : Bor (List ℕ)). length other.now < most) c.if-not-is_among.names.items names kept (c.loop-word.invariant.short most each);
            exact = names_grow names c.if-not-is_among.names.items c.args.words.now c.loop-word.word-index _ name true c.loop-word-test.true c.name_in-name.ensures
                (sym w.if-not-is_among.false ∙ among) kept c.loop-word.invariant.exact;
          }
    ]
