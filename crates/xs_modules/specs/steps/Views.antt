-- The code's types as what they represent.
use Rattle.std.specs.Prelude.{List, [], map, None}
use Rattle.xs_modules.specs.declared.precedence.Sheet.{Sheet as SheetStruct}
use Rattle.xs_modules.specs.declared.precedence.Imports.{Imports as ImportsStruct}
use Rattle.xs_modules.specs.declared.precedence.Rank.{Rank as RankStruct}
use Rattle.xs_modules.specs.declared.reading.Part.{Part}
use Rattle.xs_modules.specs.declared.reading.Mention.{Mention as MentionStruct}
use Rattle.xs_modules.specs.Mentions.{Mention}
use Rattle.xs_modules.specs.Numbering.{PartData}
use Rattle.xs_modules.specs.Precedence.{Sheet, Imports, Rank}

abbrev pub sheet_data : SheetStruct → Sheet
sheet_data s = record { number = s.number; below = s.below }

abbrev pub sheets_data : List SheetStruct → List Sheet
sheets_data sheets = map sheet_data sheets

abbrev pub imports_data : ImportsStruct → Imports
imports_data i = record { own = sheets_data i.own.items; included = sheets_data i.included.items }

abbrev pub rank_data : RankStruct → Rank
rank_data r = record { precedence = r.precedence; imports_from = r.imports_from }

abbrev pub part_data : Part → PartData
part_data p = record { records = p.tree; lines = p.lines.items; name = p.name; mention = p.mention; sheet = p.sheet }

abbrev pub mention_data : MentionStruct → Mention
mention_data m = record { from = m.from; line = m.line; element = m.element; is_import = m.is_import; name = m.name }

abbrev pub no_part : PartData
no_part = record { records = []; lines = []; name = []; mention = None; sheet = 0 }
