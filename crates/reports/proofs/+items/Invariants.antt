use lib.ListN.{length}
use Rattle.reports.proofs.+items.Given as goal

-- Each call within the cycle passes on all but the first byte.
abbrev pub decreases-next_item : goal.decreases-next_item
decreases-next_item l = length l.rest.now

abbrev pub decreases-set_length : goal.decreases-set_length
decreases-set_length l = length l.rest.now

abbrev pub decreases-set_page : goal.decreases-set_page
decreases-set_page l = length l.rest.now
