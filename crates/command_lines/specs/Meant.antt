-- The command that parsed words mean.
use Rattle.std.specs.Prelude.{Option, Some, None}
use Rattle.command_lines.specs.declared.commands.CommandLine.{CommandLine}
use Rattle.command_lines.specs.declared.commands.CommandLine.TheVariants.{Load, One, Play, PlayLine, Send, Show, Snpp, Station, Trial, Twice, WriteLine}
use Rattle.command_lines.specs.Commands.{Command}

abbrev pub meant : Option CommandLine → Option Command
meant None = None
meant (Some (One capcode)) = Some (Rattle.command_lines.specs.Commands.One capcode)
meant (Some (Load run)) = Some (Rattle.command_lines.specs.Commands.Load run.seed run.count)
meant (Some (Play air receivers)) = Some (Rattle.command_lines.specs.Commands.Play air.now receivers)
meant (Some (PlayLine line receivers)) = Some (Rattle.command_lines.specs.Commands.PlayLine line.now receivers)
meant (Some (WriteLine air line seed)) = Some (Rattle.command_lines.specs.Commands.WriteLine air.now line.now seed)
meant (Some (Show air)) = Some (Rattle.command_lines.specs.Commands.Show air.now)
meant (Some (Station line)) = Some (Rattle.command_lines.specs.Commands.Station line.address.now line.settings.now line.air.now line.count)
meant (Some (Snpp line)) = Some (Rattle.command_lines.specs.Commands.Snpp line.address.now line.settings.now line.air.now line.count)
meant (Some (Trial settings noise receivers)) = Some (Rattle.command_lines.specs.Commands.Trial settings.now noise.now receivers)
meant (Some (Twice settings noise receivers)) = Some (Rattle.command_lines.specs.Commands.Twice settings.now noise.now receivers)
meant (Some (Send address pages)) = Some (Rattle.command_lines.specs.Commands.Send address.now pages.now)
