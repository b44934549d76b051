-- `session::lists::blank` meets its contract: the first entries, as many as there are, are filled with blank ones.
use Rattle.session.proofs.Blanking.{blanked_by_fill}
use Rattle.session.proofs.lists.blank.Goals as goal

pub returns : goal.returns
returns c = blanked_by_fill c.args.n c.min-end.result c.args.list.now _ c.min-end.ensures (rw (← c.blank_entry.ensures) (c.fill.ensures.after (λ y e. e)))
