-- Listing 8: the reply to the sample of 186 bytes, whole. By computation. Assumes nothing.
use mathlib.Core.Path.{◌≡◌, refl, ap, ◌∙◌}
use Rattle.integers.specs.Sums.{sum, sum_ℕ, max_ℕ, all_below}
use Rattle.stepping.specs.Recurrence.{greatest}
use Rattle.reachability.specs.Sets.{largest}
use Rattle.reachability.specs.Motion.{matrix_at, motion_ok}
use Rattle.reachability.specs.Recurrence.{walk, first_place}
use Rattle.reader.proofs.Sample.{sample, sample_model, sample-read}
use Rattle.text.specs.Text.{word, decimal}
use Rattle.listing.specs.Listing.{direction_text, guard_text, listing_text, status_text, reply_text}

pub sample-text : reply_text sample ≡ word "model 1 3\ndir 0 spare 10\n0 0 0\n1 1 0\n2 2 1\n3 2 1\nguard 0 UNKNOWN 2\nguard 1 CLEAR\nguard 2 CLEAR\n"
unfolding reply_text listing_text direction_text guard_text decimal sample_model sum sum_ℕ max_ℕ all_below greatest largest matrix_at motion_ok walk first_place
sample-text = ap status_text sample-read ∙ listing
  where
    listing : listing_text sample_model ≡ word "model 1 3\ndir 0 spare 10\n0 0 0\n1 1 0\n2 2 1\n3 2 1\nguard 0 UNKNOWN 2\nguard 1 CLEAR\nguard 2 CLEAR\n"
    listing = refl
