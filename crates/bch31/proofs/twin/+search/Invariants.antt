use Rattle.bch31.proofs.twin.+search.Given as goal

abbrev pub decreases-search : goal.decreases-search
decreases-search l = l.places
