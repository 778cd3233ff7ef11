mod Reaches
mod Holding
