use Rattle.std.proofs.Common.{◌≡◌, ◌-◌, ◌<◌, ◌++◌, ◌∷◌, [], refl, Some, length, take, vec_len, ap, sym, ◌∙◌, subst, arith}
use Rattle.std.specs.List.{slice_get}
use Rattle.std.proofs.lemmas.Bool.{false≢true}
use Rattle.text_lines.proofs.LineParts.{ends, filled, piece_ended, piece_last, piece_none, some_read}
use Rattle.text_lines.proofs.lines.next_ended.Goals as goal

pub returns-then-branch-eq0 : goal.returns-then-branch-eq0
returns-then-branch-eq0 g c =
    piece_none c.args.end (g.R.Read.remaining c.args.input.now) (g.R.Read.remaining c.read_until.new.self) c.read_until.new.buf.items
    (c.in_ok-read_until.ensures.end c.if-branch-eq0.true)

pub returns-else-ends_with : goal.returns-else-ends_with
returns-else-ends_with g c =
    let end = c.args.end in
    let some : 0 < length c.read_until.new.buf.items =
    some_read (c.in_ok-read_until.field-0) _ _ c.read_until.new.buf.items
    (ap length c.deref.ensures.value) c.deref.ensures.len c.in_ok-read_until.ensures.ok c.if-branch-eq0.false in
    piece_last end (g.R.Read.remaining c.args.input.now)
    (g.R.Read.remaining c.read_until.new.self) c.clear.new.self.items c.read_until.new.buf.items c.clear.ensures.items
    c.in_ok-read_until.ensures.bytes c.in_ok-read_until.ensures.rest some
    (λ e. false≢true (c.if-ends_with.ensures.1 (subst (λ bs. slice_get bs (length bs - 1) ≡ Some end) (sym c.deref.ensures.value) e)))

pub returns-then-ends_with : goal.returns-then-ends_with
returns-then-ends_with g c =
    let end = c.args.end in
    let got = c.read_until.new.buf.items in
    let len : length got ≡ vec_len c.read_until.new.buf = sym (ap length c.deref.ensures.value) ∙ c.deref.ensures.len in
    let last : slice_get got (length got - 1) ≡ Some end =
    subst (λ bs. slice_get bs (length bs - 1) ≡ Some end) c.deref.ensures.value (c.if-ends_with.ensures.0 refl) in
    let some : 0 < length got = filled end got last in
    piece_ended end (g.R.Read.remaining c.args.input.now) (g.R.Read.remaining c.read_until.new.self) c.clear.new.self.items got _ c.clear.ensures.items
    c.in_ok-read_until.ensures.bytes c.in_ok-read_until.ensures.rest
    (ends end got (length got - 1) last (omega arith)
    ∙ ap (λ n. take (n - 1) got ++ end ∷ []) len ∙ ap (λ bs. bs ++ end ∷ []) (sym c.pop.ensures.rest))
