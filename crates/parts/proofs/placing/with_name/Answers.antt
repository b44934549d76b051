-- `placing::with_name` meets its contract: what is copied over 16 bytes from the next name's place on is the name.
use Rattle.std.proofs.Common.{arith, ◌≡◌, ◌+◌, ◌-◌, ◌*◌, ℕ, refl, sym, length, take, drop, List, append_assoc}
use lib.Seq.{drop-drop}
use borrow.Rule.Slice.PartMut.{put_mid}
use Rattle.parts.specs.Parts.{written}
use Rattle.parts.proofs.placing.with_name.Goals as goal

-- what is put over count bytes from a place on, where count is the length of what is put
put_is_written : (bytes new n : List ℕ) (from count : ℕ) → new ≡ n → count ≡ length n → put_mid from count bytes new ≡ written bytes from n
unfolding written
put_is_written bytes new n from count e f =
    rw (e, f, drop-drop (length n) from bytes) (sym (append_assoc (take from bytes) n (drop (from + length n) bytes)))

pub returns : goal.returns
returns c =
    let t = c.args.t in
    let from = 16 * t.names in
    let count : from + length c.args.name.now - from ≡ length c.args.name.now = omega arith in
    rw (put_is_written t.bytes _ c.args.name.now from _ c.copy_from_slice.ensures.after count) refl
