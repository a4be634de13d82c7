-- Texts that are put through a writer, one after another.
use Rattle.std.proofs.Common.{◌≡◌, ℕ, ◌+◌, ◌<◌, List, [], ◌++◌, length, get_or, drop, refl, sym, ◌∙◌, ap, subst, append_assoc}
use Rattle.std.specs.Prelude.{Result, Ok, Err}
use Rattle.std.specs.List.{flat_map}
use Rattle.std.specs.Borrow.{MutBor}
use Rattle.std.proofs.lemmas.List.{append-nil, at_drop_more}
use Rattle.io_edge.specs.Count.{Rose}
use Rattle.io_edge.specs.Transfer.{CountsErr}
use Rattle.io_edge.specs.Written.{AppendsSome}
use Rattle.io_edge.specs.declared.sink.Sink.{Ghosts as SinkGhosts}
use Rattle.run_text.specs.declared.writer.Writer.{Writer}
use Rattle.run_text.specs.Writing.{IsNewWriter, PutsText, Flushes, WritesText}
use Rattle.run_text.proofs.Passing.{passes_none, puts_then, puts_failed, ends_done, ends_failed}

counts_then : {T E : Type 0} (r : Result T E) (k m n : ℕ) → m ≡ k → CountsErr r m n → CountsErr r k n
counts_then (Ok x) k m n same h = h ∙ same
counts_then (Err e) k m n same h = subst (λ (z : ℕ). Rose z n) same h

-- no text
pub text_none : {S T E : Type 0} {g : SinkGhosts S} {x : T} {a : Writer S} → g.leads a.sink.now a.sink.now → PutsText {E = E} g (Ok x) [] a a
text_none {S} {T} {E} {g} {x} {a} leads =
    record { same_sink = refl; leads = leads; puts = passes_none (g.written a.sink.now) a.buffer; faults = refl }

-- the same text in another form
pub text_is : {S T E : Type 0} {g : SinkGhosts S} {r : Result T E} {t u : List ℕ} {a b : Writer S} → t ≡ u → PutsText g r t a b → PutsText g r u a b
text_is {S} {T} {E} {g} {r} {t} {u} {a} {b} same put = subst (λ (z : List ℕ). PutsText g r z a b) same put

-- a text that passes, and one that is put after it
pub text_next : {S T E U F : Type 0} {g : SinkGhosts S} {r : Result T E} {x : U} {t u : List ℕ} {a b c : Writer S}
    → PutsText {E = F} g (Ok x) t a b → PutsText g r u b c → g.leads a.sink.now c.sink.now → PutsText g r (t ++ u) a c
text_next {S} {T} {E} {U} {F} {g} {r} {x} {t} {u} {a} {b} {c} first next leads = record {
  same_sink = next.same_sink ∙ first.same_sink;
  leads = leads;
  puts = puts_then r (g.written a.sink.now) a.buffer t (g.written b.sink.now) b.buffer u (g.written c.sink.now) c.buffer first.puts next.puts;
  faults = counts_then r (g.faults a.sink.now) (g.faults b.sink.now) (g.faults c.sink.now) first.faults next.faults;
}

-- calls lead through one another
abbrev pub Through : {S : Type 0} → SinkGhosts S → Type 0
Through {S} g = (a b c : S) → g.leads a b → g.leads b c → g.leads a c

pub text_then : {S T E U F : Type 0} {g : SinkGhosts S} {r : Result T E} {x : U} {t u : List ℕ} {a b c : Writer S}
    → Through g → PutsText {E = F} g (Ok x) t a b → PutsText g r u b c → PutsText g r (t ++ u) a c
text_then {S} {T} {E} {U} {F} {g} {r} {x} {t} {u} {a} {b} {c} through first next =
    text_next first next (through a.sink.now b.sink.now c.sink.now first.leads next.leads)

-- a text that fails, so that more isn't tried
pub text_failed : {S T U E : Type 0} {g : SinkGhosts S} {r : Result T E} {e : E} {t : List ℕ} {a b : Writer S}
    → PutsText {T = U} g (Err e) t a b → (u : List ℕ) → r ≡ Err e → PutsText g r (t ++ u) a b
text_failed {S} {T} {U} {E} {g} {r} {e} {t} {a} {b} put u is = record {
  same_sink = put.same_sink;
  leads = put.leads;
  puts = puts_failed r e (g.written a.sink.now) a.buffer t u (g.written b.sink.now) b.buffer is put.puts;
  faults = subst (λ (z : Result T E). CountsErr z (g.faults a.sink.now) (g.faults b.sink.now)) (sym is) put.faults;
}

pub text_more : {S T E : Type 0} {g : SinkGhosts S} {e : E} {t : List ℕ} {a b : Writer S} → PutsText {T = T} g (Err e) t a b → (u : List ℕ)
    → PutsText {T = T} g (Err e) (t ++ u) a b
text_more {S} {T} {E} {g} {e} {t} {a} {b} put u = text_failed {r = Err e} put u refl

-- What a loop puts: some of the text passed, and the rest is left.
pub record Leaves {S : Type 0} (g : SinkGhosts S) (left whole : List ℕ) (old new : Writer S) : Type 0 where
  pub front : List ℕ
  pub passed : PutsText {T = Unit {0}} {E = Unit {0}} g (Ok tt) front old new
  pub all : front ++ left ≡ whole

-- nothing passed yet
pub leaves_all : {S : Type 0} {g : SinkGhosts S} {t : List ℕ} {a : Writer S} → g.leads a.sink.now a.sink.now → Leaves g t t a a
leaves_all {S} {g} {t} {a} leads = record { front = []; passed = text_none leads; all = refl }

-- what is left, in another form
pub leaves_is : {S : Type 0} {g : SinkGhosts S} {left other whole : List ℕ} {a b : Writer S} → left ≡ other → Leaves g left whole a b → Leaves g other whole a b
leaves_is {S} {g} {left} {other} {whole} {a} {b} same so_far = subst (λ (z : List ℕ). Leaves g z whole a b) same so_far

-- the next piece passes
pub leaves_rest : {S U F : Type 0} {g : SinkGhosts S} {x : U} {left one rest whole : List ℕ} {a b c : Writer S}
    → Through g → Leaves g left whole a b → PutsText {E = F} g (Ok x) one b c → left ≡ one ++ rest → Leaves g rest whole a c
leaves_rest {S} {U} {F} {g} {x} {left} {one} {rest} {whole} {a} {b} {c} through so_far put is =
    let both : PutsText {E = F} g (Ok x) (so_far.front ++ one) a c = text_then through so_far.passed put in
    record {
      front = so_far.front ++ one;
      passed = record { same_sink = both.same_sink; leads = both.leads; puts = both.puts; faults = both.faults };
      all = append_assoc so_far.front one rest ∙ ap (λ (z : List ℕ). so_far.front ++ z) (sym is) ∙ so_far.all;
    }

-- the next piece fails, and nothing is tried after it
pub leaves_failed : {S T U E : Type 0} {g : SinkGhosts S} {r : Result T E} {e : E} {left one whole : List ℕ} {a b c : Writer S}
    → Through g → Leaves g left whole a b → PutsText {T = U} g (Err e) one b c → (rest : List ℕ) → left ≡ one ++ rest → r ≡ Err e → PutsText g r whole a c
leaves_failed {S} {T} {U} {E} {g} {r} {e} {left} {one} {whole} {a} {b} {c} through so_far put rest is failed =
    text_is (ap (λ (z : List ℕ). so_far.front ++ z) (sym is) ∙ so_far.all)
    (text_then through so_far.passed (text_failed put rest failed))

-- the last piece is put
pub leaves_last : {S T E : Type 0} {g : SinkGhosts S} {r : Result T E} {left last whole : List ℕ} {a b c : Writer S}
    → Through g → Leaves g left whole a b → PutsText g r last b c → left ≡ last → PutsText g r whole a c
leaves_last {S} {T} {E} {g} {r} {left} {last} {whole} {a} {b} {c} through so_far put is =
    text_is (ap (λ (z : List ℕ). so_far.front ++ z) (sym is) ∙ so_far.all) (text_then through so_far.passed put)

-- nothing is left
pub leaves_none : {S T E : Type 0} {g : SinkGhosts S} {x : T} {left whole : List ℕ} {a b : Writer S} → Leaves g left whole a b → left ≡ []
    → PutsText {E = E} g (Ok x) whole a b
leaves_none {S} {T} {E} {g} {x} {left} {whole} {a} {b} so_far is =
    let h = so_far.passed in
    text_is (sym (append-nil so_far.front) ∙ ap (λ (z : List ℕ). so_far.front ++ z) (sym is) ∙ so_far.all)
    (record { same_sink = h.same_sink; leads = h.leads; puts = h.puts; faults = h.faults })

-- the texts of items, at one of them
pub items_at : {X : Type 0} (f : X → List ℕ) (xs : List X) (i : ℕ) (x : X) → i < length xs → x ≡ get_or xs i x
    → flat_map f (drop i xs) ≡ f x ++ flat_map f (drop (i + 1) xs)
items_at {X} f xs i x h is = at_drop_more (flat_map f) xs i x h ∙ ap (λ (y : X). f y ++ flat_map f (drop (i + 1) xs)) (sym is)

-- A text is put through a writer of its own, and then what waits is written. The sink ends as the writer's, where it is the same.
pub text_written : {S T E U F : Type 0} {g : SinkGhosts S} {r : Result T E} {x : U} {t : List ℕ} {sink : MutBor S} {last : S} {a b c : Writer S}
    → Through g → IsNewWriter sink a → PutsText {E = F} g (Ok x) t a b → Flushes g r b c → (sink.ghost_name ≡ c.sink.ghost_name → last ≡ c.sink.now)
    → WritesText g r t sink.now last
text_written {S} {T} {E} {U} {F} {g} {r} {x} {t} {sink} {last} {a} {b} {c} through new put flushed ends =
    subst (λ (s : S). WritesText g r t sink.now s) (sym (ends (sym (flushed.same_sink ∙ put.same_sink ∙ new.same_sink))))
    (subst (λ (s : S). WritesText g r t s c.sink.now) new.as_it_is (record {
      leads = through a.sink.now b.sink.now c.sink.now put.leads flushed.leads;
      done = ends_done r (g.written a.sink.now) a.buffer t (g.written b.sink.now) b.buffer (g.written c.sink.now) new.none_waits put.puts flushed.done;
      failed = ends_failed r (g.written a.sink.now) a.buffer t (g.written b.sink.now) b.buffer (g.written c.sink.now) new.none_waits put.puts flushed.failed;
      faults = counts_then r (g.faults a.sink.now) (g.faults b.sink.now) (g.faults c.sink.now) put.faults flushed.faults;
    }))

-- the text that was put failed
pub text_lost : {S T U E : Type 0} {g : SinkGhosts S} {r : Result T E} {e : E} {t : List ℕ} {sink : MutBor S} {last : S} {a b : Writer S}
    → IsNewWriter sink a → PutsText {T = U} g (Err e) t a b → (sink.ghost_name ≡ b.sink.ghost_name → last ≡ b.sink.now) → r ≡ Err e
    → WritesText g r t sink.now last
text_lost {S} {T} {U} {E} {g} {r} {e} {t} {sink} {last} {a} {b} new put ends is =
    subst (λ (s : S). WritesText g r t sink.now s) (sym (ends (sym (put.same_sink ∙ new.same_sink))))
    (subst (λ (s : S). WritesText g r t s b.sink.now) new.as_it_is
    (subst (λ (z : Result T E). WritesText g z t a.sink.now b.sink.now) (sym is) (record {
      leads = put.leads;
      done = tt;
      failed = subst (λ (p : List ℕ). AppendsSome (g.written a.sink.now) (p ++ t) (g.written b.sink.now)) new.none_waits (let h = put.puts in h.some);
      faults = put.faults;
    })))
