use Rattle.emp_engine.proofs.Ended.{ends_solved, ends_none, ends_ray, ends_accepted, ends_migrated, ends_canonical, ends_model_fault, ends_info_fault, ends_own_fault, ends_not_convex, ends_market, ends_caused, ends_files, ends_refused, ends_completed, ends_tested, ends_moved, ends_whole, ends_made, ends_done, ends_decided, ends_own}
use Rattle.emp_engine.proofs.run.run.Goals as goal

pub returns-clause-solved : goal.returns-clause-solved
returns-clause-solved g c = ends_solved _ _ _ _ _ _ c.obey.ensures.ends

pub returns-clause-none : goal.returns-clause-none
returns-clause-none g c = ends_none _ _ _ _ _ _ c.obey.ensures.ends

pub returns-clause-ray : goal.returns-clause-ray
returns-clause-ray g c = ends_ray _ _ _ _ _ _ c.obey.ensures.ends

pub returns-clause-accepted : goal.returns-clause-accepted
returns-clause-accepted g c = ends_accepted _ _ _ _ _ _ c.obey.ensures.ends

pub returns-clause-migrated : goal.returns-clause-migrated
returns-clause-migrated g c = ends_migrated _ _ _ _ _ _ c.obey.ensures.ends

pub returns-clause-canonical : goal.returns-clause-canonical
returns-clause-canonical g c = ends_canonical _ _ _ _ _ _ c.obey.ensures.ends

pub returns-clause-model_fault : goal.returns-clause-model_fault
returns-clause-model_fault g c = ends_model_fault _ _ _ _ _ _ c.obey.ensures.ends

pub returns-clause-info_fault : goal.returns-clause-info_fault
returns-clause-info_fault g c = ends_info_fault _ _ _ _ _ _ c.obey.ensures.ends

pub returns-clause-own_fault : goal.returns-clause-own_fault
returns-clause-own_fault g c = ends_own_fault _ _ _ _ _ _ c.obey.ensures.ends

pub returns-clause-convex : goal.returns-clause-convex
returns-clause-convex g c = ends_not_convex _ _ _ _ _ _ c.obey.ensures.ends

pub returns-clause-market : goal.returns-clause-market
returns-clause-market g c = ends_market _ _ _ _ _ _ c.obey.ensures.ends

pub returns-clause-cause : goal.returns-clause-cause
returns-clause-cause g c = ends_caused _ _ _ _ _ _ c.obey.ensures.ends

pub returns-clause-files : goal.returns-clause-files
returns-clause-files g c = ends_files _ _ _ _ _ _ c.obey.ensures.ends

pub returns-clause-refused : goal.returns-clause-refused
returns-clause-refused g c = ends_refused _ _ _ _ _ _ c.obey.ensures.ends

pub returns-clause-ended : goal.returns-clause-ended
returns-clause-ended g c = ends_completed _ _ _ _ _ _ c.obey.ensures.ends

pub returns-clause-tested : goal.returns-clause-tested
returns-clause-tested g c = ends_tested _ _ _ _ _ _ c.obey.ensures.ends

pub returns-clause-moved : goal.returns-clause-moved
returns-clause-moved g c = ends_moved _ _ _ _ _ _ c.obey.ensures.ends

pub returns-clause-whole : goal.returns-clause-whole
returns-clause-whole g c quiet = ends_whole _ _ _ _ _ _ c.obey.ensures.ends quiet

pub returns-clause-made : goal.returns-clause-made
returns-clause-made g c quiet = ends_made _ _ _ _ _ _ c.obey.ensures.ends quiet

pub returns-clause-done : goal.returns-clause-done
returns-clause-done g c quiet = ends_done _ _ _ _ _ _ c.obey.ensures.ends quiet

pub returns-clause-decided : goal.returns-clause-decided
returns-clause-decided g c quiet = ends_decided _ _ _ _ _ _ c.obey.ensures.ends quiet

pub returns-clause-own : goal.returns-clause-own
returns-clause-own g c quiet = ends_own _ _ _ _ _ _ c.obey.ensures.ends quiet
