-- keys, maps of pairs, and their trees
pub use Rattle.art_parts.specs.Keys
pub use Rattle.art_model.specs.Pairs
pub use Rattle.art_model.specs.Parts
pub use Rattle.art_model.specs.Texts
pub use Rattle.art_model.specs.Clones
pub use Rattle.art_model.specs.Trees
-- trees under the names of a store
pub use Rattle.art_model.specs.Layouts
pub use Rattle.art_model.specs.Stores
pub use Rattle.art_model.specs.Canonical
pub use Rattle.art_model.specs.Roots
-- lookups and iterations
pub use Rattle.art_model.specs.Lookups
pub use Rattle.art_reading.specs.Matching
pub use Rattle.art_reading.specs.PathSteps
pub use Rattle.art_reading.specs.Stored
pub use Rattle.art_reading.specs.Descents
pub use Rattle.art_reading.specs.Found
pub use Rattle.art_ranges.specs.FoundTexts
pub use Rattle.art_reading.specs.Iterators
-- what every change keeps and touches, and what it takes from a promise
pub use Rattle.art_model.specs.Kept
pub use Rattle.art_model.specs.Apart
pub use Rattle.art_model.specs.Footprints
pub use Rattle.art_model.specs.Promises
pub use Rattle.art_copying.specs.Directions
pub use Rattle.art_writing.specs.ParentWrites
-- insertion
pub use Rattle.art_reading.specs.EndNodes
pub use Rattle.art_writing.specs.Points
pub use Rattle.art_writing.specs.Inserted
pub use Rattle.art_writing.specs.Conflicts
pub use Rattle.art_writing.specs.Overwritten
-- appending at the right edge of a tree, and building maps
pub use Rattle.art_loading.specs.NextKeys
pub use Rattle.art_loading.specs.EdgeSteps
pub use Rattle.art_loading.specs.Edges
pub use Rattle.art_building.specs.Pushes
-- deletion
pub use Rattle.art_writing.specs.Deleted
pub use Rattle.art_writing.specs.SubtreePoints
-- visitors, and faults of a store
pub use Rattle.art_checking.specs.Folds
pub use Rattle.art_model.specs.Faults
pub use Rattle.art_checking.specs.Checks
-- the map
pub use Rattle.art_changing.specs.MapPairs
pub use Rattle.art_changing.specs.MapAnswers
pub use Rattle.art_iterating.specs.MapItems
pub use Rattle.art_map.specs.MapLends
pub use Rattle.art_nodes.specs.LeafCalls
pub use Rattle.art_map.specs.MapCalls
pub use Rattle.art_map.specs.MapBoth
pub use Rattle.art_map.specs.MapRetain
pub use Rattle.art_sets.specs.SetKeys
pub use Rattle.art_sets.specs.SetAlgebra
-- keys that never conflict, and their maps and sets
pub use Rattle.art_keys.specs.Prefixes
pub use Rattle.art_keys.specs.Decoded
pub use Rattle.art_keys.specs.Ended
pub use Rattle.art_keys.specs.Escapes
pub use Rattle.art_keys.specs.Numbers
pub use Rattle.art_keys.specs.Joins
pub use Rattle.art_keyed.specs.KeyedPairs
pub use Rattle.art_keyed.specs.KeyedRefusals
pub use Rattle.art_keyed.specs.KeyedValues
pub use Rattle.art_keyed.specs.KeyedLends
pub use Rattle.art_keyed.specs.Matches
pub use Rattle.art_keyed_sets.specs.SetRefusals
pub use Rattle.art_keyed_sets.specs.SetClones
-- maps with hints
pub use Rattle.art_hinted.specs.HintedLends
pub use Rattle.art_hinted.specs.HintedTexts
-- runs of commands
pub use Rattle.art_running.specs.Answers
pub use Rattle.art_running.specs.Needs
pub use Rattle.art_running.specs.Steps
pub use Rattle.art_running.specs.Runs
