-- `listing::put_listing` meets its contract: the first line, the directions and the guards, one behind the other, and the rooms that
-- they were given add up. Assumes nothing.
use Rattle.std.proofs.Common.{◌≡◌, refl, sym, ◌∙◌, true, List, ◌++◌, ℕ, ◌+◌, ◌≤◌, add-one, length, take, ℤ, arith, rules}
use lib.Seq.{length-take-le}
use Rattle.reachability.specs.Limits.{accepted}
use Rattle.reachability.specs.declared.model.Model.{Model}
use Rattle.reachability.proofs.model.Facts.{model-facts}
use Rattle.text.specs.Text.{word, line, each}
use Rattle.text.specs.Put.{Put}
use Rattle.text.proofs.Putting.{put-most, put-length, put-near}
use Rattle.text.proofs.Outputs.{next_then}
use Rattle.listing.specs.Listing.{direction_text, guard_text, listing_text, reply_room}
use Rattle.listing.proofs.Answers.{steps-most, directions-range}
use Rattle.listing.proofs.Outputs.{next_fits}
use Rattle.listing.proofs.put_listing.Goals as goal

-- K + 1 elements of a row
long : (m : Model) → accepted m ≡ true → (row : List ℤ) → 257 ≡ length row → length (take (m.steps + 1) row) ≡ m.steps + 1
long m ok row h = length-take-le (m.steps + 1) row (omega (arith, steps-most m ok, h))

-- the three parts are the listing
listed : (m : Model) {most : ℕ} {b c : List ℕ} {r : ℕ} → most ≤ reply_room → Put most 0 (line (word "model ") m.n (word " ") m.steps ++ each m.questions.directions (direction_text m) ++ each m.questions.guards (guard_text m)) b c r → Put reply_room 0 (listing_text m) b c r
unfolding listing_text
listed m h p = put-most reply_room h p

pub overflow_add-size : goal.overflow_add-size
overflow_add-size c = omega (arith, steps-most c.args.model c.requires.0)

pub slice_bounds-bounds-end : goal.slice_bounds-bounds-end
slice_bounds-bounds-end c = omega (arith, steps-most c.args.model c.requires.0)

pub slice_bounds-put_directions-end : goal.slice_bounds-put_directions-end
slice_bounds-put_directions-end c = sym (long c.args.model c.requires.0 _ refl)

pub slice_bounds-slacks-end : goal.slice_bounds-slacks-end
slice_bounds-slacks-end c = omega (arith, steps-most c.args.model c.requires.0)

pub slice_bounds-put_directions-end-2 : goal.slice_bounds-put_directions-end-2
slice_bounds-put_directions-end-2 c = sym (long c.args.model c.requires.0 _ refl)

pub put_directions-requires : goal.put_directions-requires
put_directions-requires c =
    let m = c.args.model in
    let ok = c.requires.0 in
    let h = next_fits c.put_line.ensures (omega (arith, c.requires.1)) in (
      record {
        accepts = ok;
        inside = (directions-range m ok).0;
        bounds-long = long m ok _ refl ∙ add-one m.steps;
        slacks-long = long m ok _ refl ∙ add-one m.steps;
      },
      refl,
      omega (arith, put-length h.put, put-near h.put, c.requires.1, (directions-range m ok).1),
    )

pub put_guards-requires : goal.put_guards-requires
put_guards-requires c =
    let m = c.args.model in
    let ok = c.requires.0 in
    let h = next_fits c.put_line.ensures (omega (arith, c.requires.1)) in
    let done = c.put_directions.ensures in
    (done.noted, omega (arith, put-length done.lines.put, put-near done.lines.put, put-length h.put, put-near h.put, c.requires.1, (directions-range m ok).1, (model-facts m ok).guards-most))

pub returns : goal.returns
returns c =
    let m = c.args.model in
    let ok = c.requires.0 in
    let h = next_fits c.put_line.ensures (omega (arith, c.requires.1)) in
    let all = next_then (next_then h c.put_directions.ensures.lines) c.put_guards.ensures in
    let name = all.same in
    let whole = listed m (omega (arith, (directions-range m ok).1, (model-facts m ok).guards-most)) all.put in
    search rules
