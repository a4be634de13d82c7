use Rattle.std.proofs.Common.{ℕ, List, map, slice_get, sym, ◌∙◌, arith}
use Rattle.vax_pte.specs.Words.{place_named}
use Rattle.space_map.specs.Tables.{is_sought}
use Rattle.space_map.proofs.NextPlace.{word_kind, passed_more}
use Rattle.space_map.proofs.page_table.first_sought.Goals as goal

pub loop-v-preserved : goal.loop-v-preserved
loop-v-preserved c =
    let words : List ℕ = c.args.words.now in
    let v : ℕ = c.loop-v.v in
    passed_more (is_sought c.args.sought) (slice_get (map place_named words)) c.args.from v c.loop-v.invariant
    (word_kind (is_sought c.args.sought) words v (omega arith) ∙ sym c.is_sought.ensures ∙ c.if-is_sought.false)

pub returns-then-is_sought : goal.returns-then-is_sought
returns-then-is_sought c =
    let words : List ℕ = c.args.words.now in
    let v : ℕ = c.loop-v.v in
    record {
      none_before = c.loop-v.invariant;
      found = (omega arith, omega arith, word_kind (is_sought c.args.sought) words v (omega arith) ∙ sym c.is_sought.ensures ∙ c.if-is_sought.true);
    }

pub returns : goal.returns
returns c = record { none_before = λ k l m. c.loop-v.invariant k l (omega arith); found = tt }
